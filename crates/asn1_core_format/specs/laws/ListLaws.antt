-- A list of the items of a lawful type is a lawful body.
use Rattle.std.specs.Prelude.{◌≡◌, ℕ, ◌+◌, List, [], ◌∷◌, ◌++◌, length, map}
use Rattle.std.proofs.Common.{refl, sym, ap, ◌∙◌, subst, inl, inr, arith, length-append}
use Rattle.std.specs.List.{flat_map, AllByRecursion}
use Rattle.asn1_core_element.specs.Element.{IsElement}
use Rattle.asn1_core_element.specs.laws.ElementLaws.{elements_cut}
use Rattle.asn1_core_format.specs.Format.{Format, BeginsBy, IsLawfulComponents, IsLawful}
use Rattle.asn1_core_format.specs.laws.Formats.{text_some, texts_cut, written_element}
use Rattle.asn1_core_format.specs.Lists.{ReadsAll, IsNormalAll, each}

module _ {V : Type 0} (F : Format V) (f : IsLawful F) where
  one_list : (k : ℕ) (c : List ℕ) (vs us : List V) → ReadsAll (F.Reads k) c vs → ReadsAll (F.Reads k) c us → vs ≡ us
  one_list k c [] [] p q = refl
  one_list k c [] (u ∷ us) p q = absurd (omega (arith, ap length p, ap length q.2, length-append q.0 q.1, text_some F f k q.0 u q.3))
  one_list k c (v ∷ vs) [] p q = absurd (omega (arith, ap length q, ap length p.2, length-append p.0 p.1, text_some F f k p.0 v p.3))
  one_list k c (v ∷ vs) (u ∷ us) p q =
      let e = texts_cut F f k p.0 q.0 p.1 q.1 v u p.3 q.3 (sym p.2 ∙ q.2) in
      let h : v ≡ u = f.components.one_value k p.0 v u p.3 (subst (λ b. F.Reads k b u) (sym e.0) q.3) in
      let t : vs ≡ us = one_list k p.1 vs us p.4 (subst (λ b. ReadsAll (F.Reads k) b us) (sym e.1) q.4) in
      ap (λ x. x ∷ vs) h ∙ ap (λ xs. u ∷ xs) t

  texts_read : (k : ℕ) (vs : List V) → AllByRecursion (F.IsWellFormed k) vs → ReadsAll (F.Reads k) (flat_map F.text vs) (map F.normal vs)
  texts_read k [] h = refl
  texts_read k (v ∷ vs) h = (F.text v, flat_map F.text vs, refl, f.components.text_reads k v h.0, texts_read k vs h.1)

  texts_normal : (k : ℕ) (vs : List V) → AllByRecursion (F.IsWellFormed k) vs → IsNormalAll (F.IsNormal k) (flat_map F.text vs)
  texts_normal k [] h = ([], refl, tt)
  texts_normal k (v ∷ vs) h =
      let t = texts_normal k vs h.1 in
      (F.text v ∷ t.0, ap (λ x. F.text v ++ x) t.1, (f.components.text_normal k v h.0, t.2))

  normal_texts_read : (k : ℕ) (texts : List (List ℕ)) → AllByRecursion (F.IsNormal k) texts → (vs : List V) × ReadsAll (F.Reads k) (flat_map (λ t. t) texts) vs
  normal_texts_read k [] h = ([], refl)
  normal_texts_read k (t ∷ ts) h =
      let v = f.components.normal_reads k t h.0 in
      let r = normal_texts_read k ts h.1 in
      (v.0 ∷ r.0, (t, flat_map (λ t. t) ts, refl, v.1, r.1))

  texts_fixed : (k : ℕ) (c : List ℕ) (vs : List V) → ReadsAll (F.Reads k) c vs → flat_map F.text vs ≡ c → IsNormalAll (F.IsNormal k) c
  texts_fixed k c [] r e = ([], r, tt)
  texts_fixed k c (v ∷ vs) r e =
      let s = elements_cut F.IsTag F.IsTag (F.text v) r.0 (flat_map F.text vs) r.1 (written_element F f k r.0 v r.3) (f.element k r.0 v r.3) (e ∙ r.2) in
      let t = texts_fixed k r.1 vs r.4 s.1 in
      (r.0 ∷ t.0, r.2 ∙ ap (λ x. r.0 ++ x) t.1, ((f.components.fixed k r.0 v r.3).0 s.0, t.2))

  normal_element : (k : ℕ) (t : List ℕ) → F.IsNormal k t → IsElement F.IsTag t
  normal_element k t n = let v = f.components.normal_reads k t n in f.element k t v.0 v.1

  fixed_texts : (k : ℕ) (c : List ℕ) (vs : List V) (texts : List (List ℕ)) → ReadsAll (F.Reads k) c vs → c ≡ flat_map (λ t. t) texts → AllByRecursion (F.IsNormal k) texts → flat_map F.text vs ≡ c
  fixed_texts k c [] texts r e n = sym r
  fixed_texts k c (v ∷ vs) [] r e n = absurd (omega (arith, ap length e, ap length r.2, length-append r.0 r.1, text_some F f k r.0 v r.3))
  fixed_texts k c (v ∷ vs) (t ∷ ts) r e n =
      let s = elements_cut F.IsTag F.IsTag r.0 t r.1 (flat_map (λ t. t) ts) (f.element k r.0 v r.3) (normal_element k t n.0) (sym r.2 ∙ e) in
      let h : F.text v ≡ r.0 = (f.components.fixed k r.0 v r.3).1 (subst (F.IsNormal k) (sym s.0) n.0) in
      let u : flat_map F.text vs ≡ r.1 = fixed_texts k r.1 vs ts r.4 s.1 n.1 in
      ap (λ x. x ++ flat_map F.text vs) h ∙ ap (λ x. r.0 ++ x) u ∙ sym r.2

  all_well_formed : (k : ℕ) (c : List ℕ) (vs : List V) → ReadsAll (F.Reads k) c vs → AllByRecursion (F.IsWellFormed k) vs
  all_well_formed k c [] r = tt
  all_well_formed k c (v ∷ vs) r = (f.components.well_formed k r.0 v r.3, all_well_formed k r.1 vs r.4)

  all_deeper : (k : ℕ) (c : List ℕ) (vs : List V) → ReadsAll (F.Reads k) c vs → ReadsAll (F.Reads (k + 1)) c vs
  all_deeper k c [] r = r
  all_deeper k c (v ∷ vs) r = (r.0, r.1, r.2, f.components.deeper k r.0 v r.3, all_deeper k r.1 vs r.4)

  list_begins : (k : ℕ) (c : List ℕ) (vs : List V) → ReadsAll (F.Reads k) c vs → BeginsBy F.IsTag c
  list_begins k c [] r = inl r
  list_begins k c (v ∷ vs) r = inr (r.0, r.1, r.2, f.element k r.0 v r.3)

  pub lawful_each : IsLawfulComponents (each F)
  lawful_each = record {
    begins = list_begins;
    one_value = one_list;
    text_reads = texts_read;
    text_normal = texts_normal;
    normal_reads = λ k c n. let r = normal_texts_read k n.0 n.2 in (r.0, subst (λ b. ReadsAll (F.Reads k) b r.0) (sym n.1) r.1);
    fixed = λ k c vs r. (texts_fixed k c vs r, λ n. fixed_texts k c vs n.0 r n.1 n.2);
    well_formed = all_well_formed;
    deeper = all_deeper;
  }
