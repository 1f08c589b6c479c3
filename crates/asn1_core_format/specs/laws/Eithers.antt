-- Laws of `Eithers.antt`.
use Rattle.std.specs.Prelude.{◌≡◌, ◌⊎◌, ℕ, ◌+◌, ◌&&◌, Bool, true, List, []}
use Rattle.std.proofs.Common.{sym, ap, inl, inr, append-nil}
use Rattle.asn1_core_element.specs.Element.{IsElement}
use Rattle.asn1_core_format.specs.Format.{Format, IsLawful, are_distinct}
use Rattle.asn1_core_format.specs.laws.Format.{distinct_tags, distinct_both}
use Rattle.asn1_core_format.specs.laws.Formats.{begins_alone, begins_next, next_distinct, tag_left, tag_right}
use Rattle.asn1_core_format.specs.Eithers.{either}

module _ {V W : Type 0} (F : Format V) (G : Format W) (f : IsLawful F) (g : IsLawful G) (distinct : (t : ℕ) → F.IsTag t → G.IsTag t → ⊥) where
  pub no_text_of_both : (k j : ℕ) (b : List ℕ) (v : V) (w : W) → F.Reads k b v → G.Reads j b w → ⊥
  no_text_of_both k j b v w s t = next_distinct F.IsTag G.IsTag b distinct (begins_next F.IsTag b [] b (f.element k b v s) (sym (append-nil b))) (g.components.begins j b w t)

  either_element : (k : ℕ) (b : List ℕ) (x : V ⊎ W) → (either F G).Reads k b x → IsElement (either F G).IsTag b
  either_element k b (inl v) s = tag_left F.IsTag G.IsTag b (f.element k b v s)
  either_element k b (inr w) s = tag_right F.IsTag G.IsTag b (g.element k b w s)

  either_one : (k : ℕ) (b : List ℕ) (x y : V ⊎ W) → (either F G).Reads k b x → (either F G).Reads k b y → x ≡ y
  either_one k b (inl v) (inl u) s t = ap inl (f.components.one_value k b v u s t)
  either_one k b (inl v) (inr u) s t = absurd (no_text_of_both k k b v u s t)
  either_one k b (inr v) (inl u) s t = absurd (no_text_of_both k k b u v t s)
  either_one k b (inr v) (inr u) s t = ap inr (g.components.one_value k b v u s t)

  either_text_reads : (k : ℕ) (x : V ⊎ W) → (either F G).IsWellFormed k x → (either F G).Reads k ((either F G).text x) ((either F G).normal x)
  either_text_reads k (inl v) h = f.components.text_reads k v h
  either_text_reads k (inr w) h = g.components.text_reads k w h

  either_text_normal : (k : ℕ) (x : V ⊎ W) → (either F G).IsWellFormed k x → (either F G).IsNormal k ((either F G).text x)
  either_text_normal k (inl v) h = inl (f.components.text_normal k v h)
  either_text_normal k (inr w) h = inr (g.components.text_normal k w h)

  either_normal_reads : (k : ℕ) (b : List ℕ) → (either F G).IsNormal k b → (x : V ⊎ W) × (either F G).Reads k b x
  either_normal_reads k b (inl n) = let v = f.components.normal_reads k b n in (inl v.0, v.1)
  either_normal_reads k b (inr n) = let w = g.components.normal_reads k b n in (inr w.0, w.1)

  either_keeps : (k : ℕ) (b : List ℕ) (x : V ⊎ W) → (either F G).Reads k b x → (either F G).text x ≡ b → (either F G).IsNormal k b
  either_keeps k b (inl v) s e = inl ((f.components.fixed k b v s).0 e)
  either_keeps k b (inr w) s e = inr ((g.components.fixed k b w s).0 e)

  either_kept : (k : ℕ) (b : List ℕ) (x : V ⊎ W) → (either F G).Reads k b x → (either F G).IsNormal k b → (either F G).text x ≡ b
  either_kept k b (inl v) s (inl n) = (f.components.fixed k b v s).1 n
  either_kept k b (inl v) s (inr n) = let w = g.components.normal_reads k b n in absurd (no_text_of_both k k b v w.0 s w.1)
  either_kept k b (inr w) s (inl n) = let v = f.components.normal_reads k b n in absurd (no_text_of_both k k b v.0 w v.1 s)
  either_kept k b (inr w) s (inr n) = (g.components.fixed k b w s).1 n

  either_well_formed : (k : ℕ) (b : List ℕ) (x : V ⊎ W) → (either F G).Reads k b x → (either F G).IsWellFormed k x
  either_well_formed k b (inl v) s = f.components.well_formed k b v s
  either_well_formed k b (inr w) s = g.components.well_formed k b w s

  either_deeper : (k : ℕ) (b : List ℕ) (x : V ⊎ W) → (either F G).Reads k b x → (either F G).Reads (k + 1) b x
  either_deeper k b (inl v) s = f.components.deeper k b v s
  either_deeper k b (inr w) s = g.components.deeper k b w s

  pub lawful_either : IsLawful (either F G)
  lawful_either = record {
    components = record {
      begins = λ k b x s. begins_alone (either F G).IsTag b (either_element k b x s);
      one_value = either_one;
      text_reads = either_text_reads;
      text_normal = either_text_normal;
      normal_reads = either_normal_reads;
      fixed = λ k b x s. (either_keeps k b x s, either_kept k b x s);
      well_formed = either_well_formed;
      deeper = either_deeper;
    };
    element = either_element;
  }

-- where the first tags of all alternatives are distinct
pub either_if_distinct : {V W : Type 0} (F : Format V) (G : Format W) (c : Bool) → IsLawful F → (c ≡ true → IsLawful G) → (c && are_distinct F G) ≡ true → IsLawful (either F G)
either_if_distinct F G c f g e = let p = distinct_both F G c e in lawful_either F G f (g p.0) p.1

-- the same where the other is one alternative
pub or_else : {V W : Type 0} {F : Format V} {G : Format W} → IsLawful F → are_distinct F G ≡ true → IsLawful G → IsLawful (either F G)
or_else {V} {W} {F} {G} f e g = lawful_either F G f g (distinct_tags F G e)
