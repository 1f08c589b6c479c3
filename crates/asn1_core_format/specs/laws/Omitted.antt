-- Laws of `Omitted.antt`.
use Rattle.std.specs.Prelude.{◌≡◌, ℕ, ◌+◌, ◌&&◌, Bool, true, false, List, ◌++◌}
use Rattle.std.proofs.Common.{refl, sym, ap, ◌∙◌, subst, inl, inr}
use Rattle.std.proofs.lemmas.Bool.{false_from_ne_true}
use Rattle.asn1_core_format.specs.Format.{Format, BeginsBy, IsLawfulComponents, IsLawful, are_distinct}
use Rattle.asn1_core_format.specs.laws.Format.{distinct_tags, distinct_both}
use Rattle.asn1_core_format.specs.laws.Formats.{texts_cut, begins_right, tag_left}
use Rattle.asn1_core_format.specs.Components.{part}
use Rattle.asn1_core_format.specs.laws.ComponentLaws.{lawful_part, not_both}
use Rattle.asn1_core_format.specs.Omitted.{IsDefault, omitted, text_unless}

module _ {V W : Type 0} (o : V → Bool) (d : List ℕ) (F : Format V) (R : Format W) (f : IsLawful F) (r : IsLawfulComponents R) (n : IsDefault o d F) (distinct : (t : ℕ) → F.IsTag t → R.IsTag t → ⊥) where
  both : IsLawfulComponents (part F R)
  both = lawful_part F R f r

  not_d : (k : ℕ) (v : V) → F.IsWellFormed k v → (F.text v ≡ d → ⊥) → o v ≡ false
  not_d k v w h = false_from_ne_true (o v) (λ e. h ((n.exact k v w).0 e))

  text_at : (t : Bool) (v : V) (w : W) → o v ≡ t → (omitted o d F R).text (v, w) ≡ text_unless t (F.text v) ++ R.text w
  text_at t v w e = ap (λ x. text_unless x (F.text v) ++ R.text w) e

  -- what d reads as is written as d, and so as nothing
  omitted_value : (k : ℕ) (v : V) → F.Reads k d v → o v ≡ true
  omitted_value k v s = (n.exact k v (f.components.well_formed k d v s)).1 ((f.components.fixed k d v s).1 (n.normal k v s))

  absent_text : (k : ℕ) (v : V) (w : W) → F.Reads k d v → (omitted o d F R).text (v, w) ≡ R.text w
  absent_text k v w s = text_at true v w (omitted_value k v s)

  omitted_begins : (k : ℕ) (b : List ℕ) (p : V × W) → (omitted o d F R).Reads k b p → BeginsBy (omitted o d F R).IsTag b
  omitted_begins k b p (inl s) = begins_right F.IsTag R.IsTag b (r.begins k b p.1 s.1)
  omitted_begins k b p (inr s) = inr (s.0, s.1, s.2, tag_left F.IsTag R.IsTag s.0 (f.element k s.0 p.0 s.3))

  pair : (v u : V) (w x : W) → v ≡ u → w ≡ x → ◌≡◌ {A = V × W} (v, w) (u, x)
  pair v u w x e g = ap (λ i. (i, w)) e ∙ ap (λ i. (u, i)) g

  omitted_one : (k : ℕ) (b : List ℕ) (p q : V × W) → (omitted o d F R).Reads k b p → (omitted o d F R).Reads k b q → p ≡ q
  omitted_one k b p q (inl s) (inl t) = pair p.0 q.0 p.1 q.1 (f.components.one_value k d p.0 q.0 s.0 t.0) (r.one_value k b p.1 q.1 s.1 t.1)
  omitted_one k b p q (inl s) (inr t) = absurd (not_both F R f r distinct k b q p.1 t s.1)
  omitted_one k b p q (inr s) (inl t) = absurd (not_both F R f r distinct k b p q.1 s t.1)
  omitted_one k b p q (inr s) (inr t) = both.one_value k b p q s t

  reads_at : (k : ℕ) (t : Bool) (p : V × W) → o p.0 ≡ t → (omitted o d F R).IsWellFormed k p → (omitted o d F R).Reads k (text_unless t (F.text p.0) ++ R.text p.1) ((omitted o d F R).normal p)
  reads_at k true p e h = inl (subst (λ x. F.Reads k x (F.normal p.0)) ((n.exact k p.0 h.0).0 e) (f.components.text_reads k p.0 h.0), r.text_reads k p.1 h.1)
  reads_at k false p e h = inr (both.text_reads k p h)

  true_false : {t : Bool} → t ≡ true → t ≡ false → ⊥
  true_false e g = let h : true ≡ false = sym e ∙ g in cc

  normal_at : (k : ℕ) (t : Bool) (p : V × W) → o p.0 ≡ t → (omitted o d F R).IsWellFormed k p → (omitted o d F R).IsNormal k (text_unless t (F.text p.0) ++ R.text p.1)
  normal_at k true p e h = inl (subst (λ x. F.IsNormal k x) ((n.exact k p.0 h.0).0 e) (f.components.text_normal k p.0 h.0), r.text_normal k p.1 h.1)
  normal_at k false p e h = inr (F.text p.0, R.text p.1, refl, f.components.text_normal k p.0 h.0, r.text_normal k p.1 h.1, λ g. true_false ((n.exact k p.0 h.0).1 g) e)

  omitted_normal_reads : (k : ℕ) (b : List ℕ) → (omitted o d F R).IsNormal k b → (p : V × W) × (omitted o d F R).Reads k b p
  omitted_normal_reads k b (inl s) =
      let v = f.components.normal_reads k d s.0 in
      let w = r.normal_reads k b s.1 in
      ((v.0, w.0), inl (v.1, w.1))
  omitted_normal_reads k b (inr s) = let q = both.normal_reads k b (s.0, s.1, s.2, s.3, s.4) in (q.0, inr q.1)

  keeps_at : (k : ℕ) (t : Bool) (b : List ℕ) (p : V × W) → o p.0 ≡ t → (s : (part F R).Reads k b p) → text_unless t (F.text p.0) ++ R.text p.1 ≡ b → (omitted o d F R).IsNormal k b
  keeps_at k true b p i s g =
      absurd (not_both F R f r distinct k b p (R.normal p.1) s (subst (λ x. R.Reads k x (R.normal p.1)) g (r.text_reads k p.1 (r.well_formed k s.1 p.1 s.4))))
  keeps_at k false b p i s g =
      let m = (both.fixed k b p s).0 g in
      let w = f.components.well_formed k s.0 p.0 s.3 in
      let x = texts_cut F f k (F.text p.0) s.0 (R.text p.1) s.1 (F.normal p.0) p.0 (f.components.text_reads k p.0 w) s.3 (g ∙ s.2) in
      inr (s.0, s.1, s.2, (f.components.fixed k s.0 p.0 s.3).0 x.0, (r.fixed k s.1 p.1 s.4).0 x.1, λ y. true_false ((n.exact k p.0 w).1 (x.0 ∙ y)) i)

  omitted_keeps : (k : ℕ) (b : List ℕ) (p : V × W) → (omitted o d F R).Reads k b p → (omitted o d F R).text p ≡ b → (omitted o d F R).IsNormal k b
  omitted_keeps k b p (inl s) g = inl (n.normal k p.0 s.0, (r.fixed k b p.1 s.1).0 (sym (absent_text k p.0 p.1 s.0) ∙ g))
  omitted_keeps k b p (inr s) g = keeps_at k (o p.0) b p refl s g

  omitted_kept : (k : ℕ) (b : List ℕ) (p : V × W) → (omitted o d F R).Reads k b p → (omitted o d F R).IsNormal k b → (omitted o d F R).text p ≡ b
  omitted_kept k b p (inl s) (inl t) = absent_text k p.0 p.1 s.0 ∙ (r.fixed k b p.1 s.1).1 t.1
  omitted_kept k b p (inl s) (inr t) = let q = both.normal_reads k b (t.0, t.1, t.2, t.3, t.4) in absurd (not_both F R f r distinct k b q.0 p.1 q.1 s.1)
  omitted_kept k b p (inr s) (inl t) = let w = r.normal_reads k b t.1 in absurd (not_both F R f r distinct k b p w.0 s w.1)
  omitted_kept k b p (inr s) (inr t) =
      let e = (both.fixed k b p s).1 (t.0, t.1, t.2, t.3, t.4) in
      let w = f.components.well_formed k s.0 p.0 s.3 in
      let v = f.components.normal_reads k t.0 t.3 in
      let x = texts_cut F f k (F.text p.0) t.0 (R.text p.1) t.1 (F.normal p.0) v.0 (f.components.text_reads k p.0 w) v.1 (e ∙ t.2) in
      text_at false p.0 p.1 (not_d k p.0 w (λ i. t.5 (sym x.0 ∙ i))) ∙ e

  omitted_well_formed : (k : ℕ) (b : List ℕ) (p : V × W) → (omitted o d F R).Reads k b p → (omitted o d F R).IsWellFormed k p
  omitted_well_formed k b p (inl s) = (f.components.well_formed k d p.0 s.0, r.well_formed k b p.1 s.1)
  omitted_well_formed k b p (inr s) = both.well_formed k b p s

  omitted_deeper : (k : ℕ) (b : List ℕ) (p : V × W) → (omitted o d F R).Reads k b p → (omitted o d F R).Reads (k + 1) b p
  omitted_deeper k b p (inl s) = inl (f.components.deeper k d p.0 s.0, r.deeper k b p.1 s.1)
  omitted_deeper k b p (inr s) = inr (both.deeper k b p s)

  pub lawful_omitted : IsLawfulComponents (omitted o d F R)
  lawful_omitted = record {
    begins = omitted_begins;
    one_value = omitted_one;
    text_reads = λ k p h. reads_at k (o p.0) p refl h;
    text_normal = λ k p h. normal_at k (o p.0) p refl h;
    normal_reads = omitted_normal_reads;
    fixed = λ k b p s. (omitted_keeps k b p s, omitted_kept k b p s);
    well_formed = omitted_well_formed;
    deeper = omitted_deeper;
  }

  -- the value that absence means
  pub omitted_is : (k : ℕ) (v : V) → F.Reads k d v → o v ≡ true
  omitted_is = omitted_value

-- where the first tags are distinct, of the part and in what follows
pub omitted_if_distinct : {V W : Type 0} (o : V → Bool) (d : List ℕ) (F : Format V) (R : Format W) (c : Bool) → IsLawful F → (c ≡ true → IsLawfulComponents R) → IsDefault o d F → (c && are_distinct F R) ≡ true → IsLawfulComponents (omitted o d F R)
omitted_if_distinct o d F R c f r n e = let p = distinct_both F R c e in lawful_omitted o d F R f (r p.0) n p.1

-- `refl` where the part's first tags aren't those of what follows
pub unless : {V W : Type 0} {o : V → Bool} {d : List ℕ} {F : Format V} {R : Format W} → IsLawful F → IsDefault o d F → are_distinct F R ≡ true → IsLawfulComponents R → IsLawfulComponents (omitted o d F R)
unless {V} {W} {o} {d} {F} {R} f n e r = lawful_omitted o d F R f r n (distinct_tags F R e)
