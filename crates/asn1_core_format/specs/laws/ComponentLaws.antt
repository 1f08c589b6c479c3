-- The laws of components, and of an element with components in it.
use Rattle.std.specs.Prelude.{◌≡◌, ◌↔◌, ℕ, ◌+◌, ◌&&◌, Bool, true, List, ◌++◌, Option, None, Some}
use Rattle.std.proofs.Common.{refl, sym, ap, ◌∙◌, subst, inl, inr}
use Rattle.asn1_core_element.specs.Element.{element, IsElement, IsTagByte}
use Rattle.asn1_core_element.specs.laws.ElementLaws.{element_same, elements_cut}
use Rattle.asn1_core_format.specs.Format.{Format, BeginsBy, IsLawfulComponents, IsLawful, are_distinct}
use Rattle.asn1_core_format.specs.laws.Format.{distinct_both}
use Rattle.asn1_core_format.specs.laws.Formats.{begins_alone, begins_next, next_distinct, begins_right, tag_left}
use Rattle.asn1_core_format.specs.Components.{nothing, part, optional, within}

pub lawful_nothing : IsLawfulComponents nothing
lawful_nothing = record {
  begins = λ k b v r. inl r;
  one_value = λ k b v w r s. refl;
  text_reads = λ k v h. refl;
  text_normal = λ k v h. refl;
  normal_reads = λ k b n. (tt, n);
  fixed = λ k b v r. (λ e. r, λ n. sym r);
  well_formed = λ k b v r. tt;
  deeper = λ k b v r. r;
}

module _ {V W : Type 0} (F : Format V) (R : Format W) (f : IsLawful F) (r : IsLawfulComponents R) where
  part_begins : (k : ℕ) (b : List ℕ) (p : V × W) → (part F R).Reads k b p → BeginsBy F.IsTag b
  part_begins k b p s = inr (s.0, s.1, s.2, f.element k s.0 p.0 s.3)

  part_same : (k : ℕ) (a c d e : List ℕ) (u v : V) → F.Reads k a u → F.Reads k d v → a ++ c ≡ d ++ e → (a ≡ d) × (c ≡ e)
  part_same k a c d e u v p q s = elements_cut F.IsTag F.IsTag a d c e (f.element k a u p) (f.element k d v q) s

  part_one : (k : ℕ) (b : List ℕ) (p q : V × W) → (part F R).Reads k b p → (part F R).Reads k b q → p ≡ q
  part_one k b p q s t =
      let e = part_same k s.0 s.1 t.0 t.1 p.0 q.0 s.3 t.3 (sym s.2 ∙ t.2) in
      let x : p.0 ≡ q.0 = f.components.one_value k s.0 p.0 q.0 s.3 (subst (λ a. F.Reads k a q.0) (sym e.0) t.3) in
      let y : p.1 ≡ q.1 = r.one_value k s.1 p.1 q.1 s.4 (subst (λ a. R.Reads k a q.1) (sym e.1) t.4) in
      ap (λ v. (v, p.1)) x ∙ ap (λ w. (q.0, w)) y

  part_fixed : (k : ℕ) (b : List ℕ) (p : V × W) → (part F R).Reads k b p → ((part F R).text p ≡ b) ↔ (part F R).IsNormal k b
  part_fixed k b p s = (
    λ e.
        let c = elements_cut F.IsTag F.IsTag (F.text p.0) s.0 (R.text p.1) s.1 (f.element k (F.text p.0) (F.normal p.0) (f.components.text_reads k p.0 (f.components.well_formed k s.0 p.0 s.3))) (f.element k s.0 p.0 s.3) (e ∙ s.2) in
        (s.0, s.1, s.2, (f.components.fixed k s.0 p.0 s.3).0 c.0, (r.fixed k s.1 p.1 s.4).0 c.1),
    λ n.
        let v = f.components.normal_reads k n.0 n.3 in
        let c = elements_cut F.IsTag F.IsTag s.0 n.0 s.1 n.1 (f.element k s.0 p.0 s.3) (f.element k n.0 v.0 v.1) (sym s.2 ∙ n.2) in
        let x : F.text p.0 ≡ s.0 = (f.components.fixed k s.0 p.0 s.3).1 (subst (F.IsNormal k) (sym c.0) n.3) in
        let y : R.text p.1 ≡ s.1 = (r.fixed k s.1 p.1 s.4).1 (subst (R.IsNormal k) (sym c.1) n.4) in
        ap (λ z. z ++ R.text p.1) x ∙ ap (λ z. s.0 ++ z) y ∙ sym s.2,
  )

  pub lawful_part : IsLawfulComponents (part F R)
  lawful_part = record {
    begins = part_begins;
    one_value = part_one;
    text_reads = λ k p h. (F.text p.0, R.text p.1, refl, f.components.text_reads k p.0 h.0, r.text_reads k p.1 h.1);
    text_normal = λ k p h. (F.text p.0, R.text p.1, refl, f.components.text_normal k p.0 h.0, r.text_normal k p.1 h.1);
    normal_reads = λ k b n. let v = f.components.normal_reads k n.0 n.3 in let w = r.normal_reads k n.1 n.4 in ((v.0, w.0), (n.0, n.1, n.2, v.1, w.1));
    fixed = part_fixed;
    well_formed = λ k b p s. (f.components.well_formed k s.0 p.0 s.3, r.well_formed k s.1 p.1 s.4);
    deeper = λ k b p s. (s.0, s.1, s.2, f.components.deeper k s.0 p.0 s.3, r.deeper k s.1 p.1 s.4);
  }

module _ {V W : Type 0} (F : Format V) (R : Format W) (f : IsLawful F) (r : IsLawfulComponents R) where
  -- an encoding of F and more is no encoding of R, where they have no tag in common
  pub not_both : ((t : ℕ) → F.IsTag t → R.IsTag t → ⊥) → (k : ℕ) (b : List ℕ) (p : V × W) (w : W) → (part F R).Reads k b p → R.Reads k b w → ⊥
  not_both distinct k b p w s t = next_distinct F.IsTag R.IsTag b distinct (begins_next F.IsTag s.0 s.1 b (f.element k s.0 p.0 s.3) s.2) (r.begins k b w t)

module _ {V W : Type 0} (F : Format V) (R : Format W) (f : IsLawful F) (r : IsLawfulComponents R) (distinct : (t : ℕ) → F.IsTag t → R.IsTag t → ⊥) where
  both : IsLawfulComponents (part F R)
  both = lawful_part F R f r

  optional_begins : (k : ℕ) (b : List ℕ) (p : Option V × W) → (optional F R).Reads k b p → BeginsBy (optional F R).IsTag b
  optional_begins k b (None, w) s = begins_right F.IsTag R.IsTag b (r.begins k b w s)
  optional_begins k b (Some v, w) s = inr (s.0, s.1, s.2, tag_left F.IsTag R.IsTag s.0 (f.element k s.0 v s.3))

  -- by the tags, no bytes both lack the part and have it
  optional_one : (k : ℕ) (b : List ℕ) (p q : Option V × W) → (optional F R).Reads k b p → (optional F R).Reads k b q → p ≡ q
  optional_one k b (None, w) (None, u) s t = ap (λ x. (None, x)) (r.one_value k b w u s t)
  optional_one k b (None, w) (Some v, u) s t = absurd (not_both F R f r distinct k b (v, u) w t s)
  optional_one k b (Some v, w) (None, u) s t = absurd (not_both F R f r distinct k b (v, w) u s t)
  optional_one k b (Some v, w) (Some u, x) s t = ap (λ q. (Some q.0, q.1)) (both.one_value k b (v, w) (u, x) s t)

  optional_text_reads : (k : ℕ) (p : Option V × W) → (optional F R).IsWellFormed k p → (optional F R).Reads k ((optional F R).text p) ((optional F R).normal p)
  optional_text_reads k (None, w) h = r.text_reads k w h.1
  optional_text_reads k (Some v, w) h = both.text_reads k (v, w) h

  optional_text_normal : (k : ℕ) (p : Option V × W) → (optional F R).IsWellFormed k p → (optional F R).IsNormal k ((optional F R).text p)
  optional_text_normal k (None, w) h = inl (r.text_normal k w h.1)
  optional_text_normal k (Some v, w) h = inr (both.text_normal k (v, w) h)

  optional_normal_reads : (k : ℕ) (b : List ℕ) → (optional F R).IsNormal k b → (p : Option V × W) × (optional F R).Reads k b p
  optional_normal_reads k b (inl n) = let w = r.normal_reads k b n in ((None, w.0), w.1)
  optional_normal_reads k b (inr n) = let q = both.normal_reads k b n in ((Some q.0.0, q.0.1), q.1)

  optional_keeps : (k : ℕ) (b : List ℕ) (p : Option V × W) → (optional F R).Reads k b p → (optional F R).text p ≡ b → (optional F R).IsNormal k b
  optional_keeps k b (None, w) s e = inl ((r.fixed k b w s).0 e)
  optional_keeps k b (Some v, w) s e = inr ((both.fixed k b (v, w) s).0 e)

  optional_kept : (k : ℕ) (b : List ℕ) (p : Option V × W) → (optional F R).Reads k b p → (optional F R).IsNormal k b → (optional F R).text p ≡ b
  optional_kept k b (None, w) s (inl n) = (r.fixed k b w s).1 n
  optional_kept k b (None, w) s (inr n) = let q = both.normal_reads k b n in absurd (not_both F R f r distinct k b q.0 w q.1 s)
  optional_kept k b (Some v, w) s (inl n) = let u = r.normal_reads k b n in absurd (not_both F R f r distinct k b (v, w) u.0 s u.1)
  optional_kept k b (Some v, w) s (inr n) = (both.fixed k b (v, w) s).1 n

  optional_well_formed : (k : ℕ) (b : List ℕ) (p : Option V × W) → (optional F R).Reads k b p → (optional F R).IsWellFormed k p
  optional_well_formed k b (None, w) s = (tt, r.well_formed k b w s)
  optional_well_formed k b (Some v, w) s = both.well_formed k b (v, w) s

  optional_deeper : (k : ℕ) (b : List ℕ) (p : Option V × W) → (optional F R).Reads k b p → (optional F R).Reads (k + 1) b p
  optional_deeper k b (None, w) s = r.deeper k b w s
  optional_deeper k b (Some v, w) s = both.deeper k b (v, w) s

  pub lawful_optional : IsLawfulComponents (optional F R)
  lawful_optional = record {
    begins = optional_begins;
    one_value = optional_one;
    text_reads = optional_text_reads;
    text_normal = optional_text_normal;
    normal_reads = optional_normal_reads;
    fixed = λ k b p s. (optional_keeps k b p s, optional_kept k b p s);
    well_formed = optional_well_formed;
    deeper = optional_deeper;
  }

-- where the first tags are distinct, of the part and in what follows
pub optional_if_distinct : {V W : Type 0} (F : Format V) (R : Format W) (c : Bool) → IsLawful F → (c ≡ true → IsLawfulComponents R) → (c && are_distinct F R) ≡ true → IsLawfulComponents (optional F R)
optional_if_distinct F R c f r e = let p = distinct_both F R c e in lawful_optional F R f (r p.0) p.1

module _ {V : Type 0} (R : Format V) (r : IsLawfulComponents R) (tag : ℕ) (is_tag : IsTagByte tag) where
  inner : (b c d : List ℕ) → b ≡ element tag c → b ≡ element tag d → c ≡ d
  inner b c d p q = (element_same tag tag c d (sym p ∙ q)).1

  within_element : (k : ℕ) (b : List ℕ) (v : V) → (within tag R).Reads k b v → IsElement (λ t. t ≡ tag) b
  within_element k b v s = record { tag = tag; contents = s.0; is_tag = is_tag; is = s.1; allowed = refl }

  within_fixed : (k : ℕ) (b : List ℕ) (v : V) → (within tag R).Reads k b v → ((within tag R).text v ≡ b) ↔ (within tag R).IsNormal k b
  within_fixed k b v s = (
    λ e. (s.0, s.1, (r.fixed k s.0 v s.2).0 (inner b (R.text v) s.0 (sym e) s.1)),
    λ n. ap (element tag) ((r.fixed k s.0 v s.2).1 (subst (R.IsNormal k) (inner b n.0 s.0 n.1 s.1) n.2)) ∙ sym s.1,
  )

  pub lawful_within : IsLawful (within tag R)
  lawful_within = record {
    components = record {
      begins = λ k b v s. begins_alone (λ t. t ≡ tag) b (within_element k b v s);
      one_value = λ k b v w s t. r.one_value k s.0 v w s.2 (subst (λ c. R.Reads k c w) (inner b t.0 s.0 t.1 s.1) t.2);
      text_reads = λ k v h. (R.text v, refl, r.text_reads k v h);
      text_normal = λ k v h. (R.text v, refl, r.text_normal k v h);
      normal_reads = λ k b n. let v = r.normal_reads k n.0 n.2 in (v.0, (n.0, n.1, v.1));
      fixed = within_fixed;
      well_formed = λ k b v s. r.well_formed k s.0 v s.2;
      deeper = λ k b v s. (s.0, s.1, r.deeper k s.0 v s.2);
    };
    element = within_element;
  }
