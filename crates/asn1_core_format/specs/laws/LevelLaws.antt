-- Laws of `LevelLaws.antt`.
use Rattle.std.specs.Prelude.{◌≡◌, ◌↔◌, ℕ, zero, suc, ◌+◌, List}
use Rattle.std.proofs.Common.{refl, sym, ◌∙◌, subst, arith}
use Rattle.asn1_core_element.specs.Element.{IsElement}
use Rattle.asn1_core_format.specs.Format.{Format, IsLawful}
use Rattle.asn1_core_format.specs.laws.Formats.{begins_alone}
use Rattle.asn1_core_format.specs.Levels.{less, Grammar, no_grammar, at_level, LevelInvariant, by_levels, always, unrolled, levels}
use Rattle.asn1_core_format.specs.LevelLaws.{IsStep}

-- the first up to level k, and then the second
abbrev pub up_to : {A : Type 1} → A → A → ℕ → ℕ → A
up_to g h k zero = g
up_to g h zero (suc j) = h
up_to g h (suc k) (suc j) = up_to g h k j

up_to_at : {A : Type 1} (g h : A) (k : ℕ) → up_to g h k k ≡ g
up_to_at g h zero = refl
up_to_at g h (suc k) = up_to_at g h k

up_to_next : {A : Type 1} (g h : A) (k : ℕ) → up_to g h k (suc k) ≡ h
up_to_next g h zero = refl
up_to_next g h (suc k) = up_to_next g h k

up_to_each : {A : Type 1} (P : A → Type 0) (g h : A) → P g → P h → (k j : ℕ) → P (up_to g h k j)
up_to_each P g h p q k zero = p
up_to_each P g h p q zero (suc j) = q
up_to_each P g h p q (suc k) (suc j) = up_to_each P g h p q k j

up_to_grows : {A : Type 1} (R : A → A → Type 0) (g h : A) → R g g → R g h → R h h → (k j : ℕ) → R (up_to g h k j) (up_to g h k (suc j))
up_to_grows R g h x y z zero zero = y
up_to_grows R g h x y z zero (suc j) = z
up_to_grows R g h x y z (suc k) zero = x
up_to_grows R g h x y z (suc k) (suc j) = up_to_grows R g h x y z k j

map_tags : (S T : ℕ → Type 0) (b : List ℕ) → ((t : ℕ) → S t → T t) → IsElement S b → IsElement T b
map_tags S T b f e = record { tag = e.tag; contents = e.contents; is_tag = e.is_tag; is = e.is; allowed = f e.tag e.allowed }

module _ {V : Type 0} (s : LevelInvariant V) where
  lawful_none : IsLawful (always s no_grammar)
  lawful_none = record {
    components = record {
      begins = λ k b v r. absurd r;
      one_value = λ k b v w r q. absurd r;
      text_reads = λ k v h. absurd h;
      text_normal = λ k v h. absurd h;
      normal_reads = λ k b n. absurd n;
      fixed = λ k b v r. absurd r;
      well_formed = λ k b v r. absurd r;
      deeper = λ k b v r. absurd r;
    };
    element = λ k b v r. absurd r;
  }

  -- laws that hold of the grammar at each level, and a grammar that grows
  lawful_by_levels : (g : ℕ → Grammar V) → ((k : ℕ) → IsLawful (always s (g k))) → ((k : ℕ) (b : List ℕ) (v : V) → (g k).Reads b v → (g (suc k)).Reads b v) → IsLawful (by_levels s g)
  lawful_by_levels g l grows = record {
    components = record {
      begins = λ k. (l k).components.begins k;
      one_value = λ k. (l k).components.one_value k;
      text_reads = λ k. (l k).components.text_reads k;
      text_normal = λ k. (l k).components.text_normal k;
      normal_reads = λ k. (l k).components.normal_reads k;
      fixed = λ k. (l k).components.fixed k;
      well_formed = λ k. (l k).components.well_formed k;
      deeper = λ k b v r. subst (λ j. (g j).Reads b v) (omega arith) (grows k b v r);
    };
    element = λ k. (l k).element k;
  }

module _ {I : Type 0} {V : I → Type 0} (s : (i : I) → LevelInvariant (V i)) (step : ((i : I) → Format (V i)) → (i : I) → Format (V i)) (p : IsStep s step) where
  one_level : (k : ℕ) (g : (i : I) → Grammar (V i)) (i : I) → IsLawful (step (λ j. always (s j) (g j)) i) → IsLawful (always (s i) (at_level k (step (λ j. always (s j) (g j)) i)))
  one_level k g i f =
      let F : Format (V i) = step (λ j. always (s j) (g j)) i in
      let e : (j : ℕ) (b : List ℕ) (v : V i) → F.Reads k b v → IsElement (s i).IsTag b = λ j b v r. map_tags F.IsTag (s i).IsTag b (p.tags (λ _. g) i) (f.element k b v r) in
      record {
        components = record {
          begins = λ j b v r. begins_alone (s i).IsTag b (e j b v r);
          one_value = λ j. f.components.one_value k;
          text_reads = λ j v h. subst (λ b. F.Reads k b ((s i).normal v)) (p.text (λ _. g) i v) (subst (λ w. F.Reads k (F.text v) w) (p.normal (λ _. g) i v) (f.components.text_reads k v h));
          text_normal = λ j v h. subst (F.IsNormal k) (p.text (λ _. g) i v) (f.components.text_normal k v h);
          normal_reads = λ j. f.components.normal_reads k;
          fixed = λ j b v r. (λ q. (f.components.fixed k b v r).0 (p.text (λ _. g) i v ∙ q), λ n. sym (p.text (λ _. g) i v) ∙ (f.components.fixed k b v r).1 n);
          well_formed = λ j. f.components.well_formed k;
          deeper = λ j b v r. r;
        };
        element = e;
      }

  lawful_inside : (k : ℕ) (i : I) → IsLawful (always (s i) (unrolled s step k i))
  unfolding unrolled
  lawful_inside zero i = lawful_none (s i)
  lawful_inside (suc k) i = one_level k (unrolled s step k) i (p.lawful (λ j. always (s j) (unrolled s step k j)) (lawful_inside k) i)

  Grows : ((i : I) → Grammar (V i)) → ((i : I) → Grammar (V i)) → Type 0
  Grows g h = (i : I) (b : List ℕ) (v : V i) → (g i).Reads b v → (h i).Reads b v

  -- what is read inside is read with one level more: `step` of formats that have both levels
  grows : (k : ℕ) → Grows (unrolled s step k) (unrolled s step (suc k))
  unfolding unrolled Grows
  grows zero i b v r = absurd r
  grows (suc k) i b v r =
      let g : (i : I) → Grammar (V i) = unrolled s step k in
      let h : (i : I) → Grammar (V i) = unrolled s step (suc k) in
      let F : (i : I) → Format (V i) = λ j. by_levels (s j) (λ m. up_to g h k m j) in
      let l : (j : I) → IsLawful (F j) = λ j. lawful_by_levels (s j) (λ m. up_to g h k m j)
      (λ m. up_to_each (λ q. IsLawful (always (s j) (q j))) g h (lawful_inside k j) (lawful_inside (suc k) j) k m)
      (λ m. up_to_grows Grows g h (λ _ _ _ x. x) (grows k) (λ _ _ _ x. x) k m j) in
      let x : (step F i).Reads k b v = (p.reads F k i b v).0 (subst (λ q. (step (λ j. always (s j) (q j)) i).Reads k b v) (sym (up_to_at g h k)) r) in
      let y : (step F i).Reads (suc k) b v = subst (λ j. (step F i).Reads j b v) (omega arith) ((p.lawful F l i).components.deeper k b v x) in
      subst (λ q. (step (λ j. always (s j) (q j)) i).Reads (suc k) b v) (up_to_next g h k) ((p.reads F (suc k) i b v).1 y)

  pub lawful_levels : (i : I) → IsLawful (levels s step i)
  unfolding Grows
  lawful_levels i = lawful_by_levels (s i) (λ k. unrolled s step (suc k) i) (λ k. lawful_inside (suc k) i) (λ k. grows (suc k) i)

  -- one level unrolled
  pub unroll : (k : ℕ) (i : I) (b : List ℕ) (v : V i) → (levels s step i).Reads k b v ↔ (step (λ j. less (levels s step j)) i).Reads k b v
  unfolding unrolled
  unroll zero i b v = p.reads (λ j. less (levels s step j)) zero i b v
  unroll (suc k) i b v = p.reads (λ j. less (levels s step j)) (suc k) i b v

  pub unroll_formed : (k : ℕ) (i : I) (v : V i) → (levels s step i).IsWellFormed k v ↔ (step (λ j. less (levels s step j)) i).IsWellFormed k v
  unfolding unrolled
  unroll_formed zero i v = p.formed (λ j. less (levels s step j)) zero i v
  unroll_formed (suc k) i v = p.formed (λ j. less (levels s step j)) (suc k) i v

  pub unroll_text : (i : I) (v : V i) → (step (λ j. less (levels s step j)) i).text v ≡ (s i).text v
  unroll_text = p.text (λ k j. at_level k (less (levels s step j)))

  pub unroll_least : (i : I) (v : V i) → (step (λ j. less (levels s step j)) i).least v ≡ (s i).least v
  unroll_least = p.least (λ k j. at_level k (less (levels s step j)))

module _ {V : Type 0} (F : Format V) (f : IsLawful F) where
  less_element : (k : ℕ) (b : List ℕ) (v : V) → (less F).Reads k b v → IsElement F.IsTag b
  less_element zero b v r = absurd r
  less_element (suc k) b v r = f.element k b v r

  less_one : (k : ℕ) (b : List ℕ) (v w : V) → (less F).Reads k b v → (less F).Reads k b w → v ≡ w
  less_one zero b v w r q = absurd r
  less_one (suc k) b v w r q = f.components.one_value k b v w r q

  less_text_reads : (k : ℕ) (v : V) → (less F).IsWellFormed k v → (less F).Reads k (F.text v) (F.normal v)
  less_text_reads zero v h = absurd h
  less_text_reads (suc k) v h = f.components.text_reads k v h

  less_text_normal : (k : ℕ) (v : V) → (less F).IsWellFormed k v → (less F).IsNormal k (F.text v)
  less_text_normal zero v h = absurd h
  less_text_normal (suc k) v h = f.components.text_normal k v h

  less_normal_reads : (k : ℕ) (b : List ℕ) → (less F).IsNormal k b → (v : V) × (less F).Reads k b v
  less_normal_reads zero b n = absurd n
  less_normal_reads (suc k) b n = f.components.normal_reads k b n

  less_fixed : (k : ℕ) (b : List ℕ) (v : V) → (less F).Reads k b v → (F.text v ≡ b) ↔ (less F).IsNormal k b
  less_fixed zero b v r = absurd r
  less_fixed (suc k) b v r = f.components.fixed k b v r

  less_well_formed : (k : ℕ) (b : List ℕ) (v : V) → (less F).Reads k b v → (less F).IsWellFormed k v
  less_well_formed zero b v r = absurd r
  less_well_formed (suc k) b v r = f.components.well_formed k b v r

  less_deeper : (k : ℕ) (b : List ℕ) (v : V) → (less F).Reads k b v → (less F).Reads (suc k) b v
  less_deeper zero b v r = absurd r
  less_deeper (suc k) b v r = subst (λ j. F.Reads j b v) (omega arith) (f.components.deeper k b v r)

  pub lawful_less : IsLawful (less F)
  lawful_less = record {
    components = record {
      begins = λ k b v r. begins_alone F.IsTag b (less_element k b v r);
      one_value = less_one;
      text_reads = less_text_reads;
      text_normal = less_text_normal;
      normal_reads = less_normal_reads;
      fixed = less_fixed;
      well_formed = less_well_formed;
      deeper = λ k b v r. let e : suc k ≡ k + 1 = omega arith in subst (λ j. (less F).Reads j b v) e (less_deeper k b v r);
    };
    element = less_element;
  }
