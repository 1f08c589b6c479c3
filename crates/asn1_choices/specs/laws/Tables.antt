-- Laws of `Tables.antt`.
use Rattle.std.specs.Prelude.{◌≡◌, ◌⊎◌, ℕ, ◌+◌, List, ◌++◌, Option, Some, None}
use Rattle.std.proofs.Common.{refl, sym, ap, ◌∙◌, subst, inl, inr}
use Rattle.asn1_core.specs.Der.{element, element_cut, Choice, Heads, IsLawfulChoice, same_head, heads_begin, Format, IsLawfulComponents}
use Rattle.asn1_choices.specs.Tables.{IsTable, Table, among}

some_none : {A : Type 0} {x : A} → Some x ≡ None → ⊥
some_none e = cc

some_same : {A : Type 0} {x y : A} → Some x ≡ Some y → x ≡ y
some_same e = cc

module _ {A V W : Type 0} (T : Table A) (R : Format V) (C : Choice W) (t : IsTable T) (r : IsLawfulComponents R) (c : IsLawfulChoice C) where
  -- the bytes determine the alternative and what follows its object identifier
  among_cut : (b x y : List ℕ) (a d : A) → b ≡ element 0x06 (T.oid_of a) ++ x → b ≡ element 0x06 (T.oid_of d) ++ y → (a ≡ d) × (x ≡ y)
  among_cut b x y a d p q =
      let e = element_cut 0x06 0x06 (T.oid_of a) (T.oid_of d) x y (sym p ∙ q) in
      (some_same (sym (t.there a) ∙ ap T.alternative_of e.1 ∙ t.there d), e.2)

  among_heads : (k : ℕ) (b : List ℕ) (v : (A × V) ⊎ W) → (among T R C).components.Reads k b v → Heads ((among T R C).oid_of v) b
  among_heads k b (inl p) s = (s.0, s.1)
  among_heads k b (inr w) s = c.heads k b w s.0

  no_alternative : (k : ℕ) (b : List ℕ) (w : W) → C.components.Reads k b w → T.alternative_of (C.oid_of w) ≡ None → (a : A) → Heads (T.oid_of a) b → ⊥
  no_alternative k b w s n a h = some_none (sym (t.there a) ∙ ap T.alternative_of (sym (same_head (C.oid_of w) (T.oid_of a) b (c.heads k b w s) h)) ∙ n)

  -- bytes that begin with no object identifier of the table
  none_of : (o b : List ℕ) (m : Option A) → T.alternative_of o ≡ m → Heads o b → ((a : A) → Heads (T.oid_of a) b → ⊥) → m ≡ None
  none_of o b None e h n = refl
  none_of o b (Some a) e h n = absurd (n a (subst (λ p. Heads p b) (sym (t.back o a e)) h))

  among_one : (k : ℕ) (b : List ℕ) (v u : (A × V) ⊎ W) → (among T R C).components.Reads k b v → (among T R C).components.Reads k b u → v ≡ u
  among_one k b (inl (a, v)) (inl (d, u)) s x =
      let e = among_cut b s.0 x.0 a d s.1 x.1 in
      ap (λ z. inl (z, v)) e.0 ∙ ap (λ z. inl (d, z)) (r.one_value k s.0 v u s.2 (subst (λ z. R.Reads k z u) (sym e.1) x.2))
  among_one k b (inl (a, v)) (inr u) s x = absurd (no_alternative k b u x.0 x.1 a (s.0, s.1))
  among_one k b (inr v) (inl (d, u)) s x = absurd (no_alternative k b v s.0 s.1 d (x.0, x.1))
  among_one k b (inr v) (inr u) s x = ap inr (c.components.one_value k b v u s.0 x.0)

  among_text_reads : (k : ℕ) (v : (A × V) ⊎ W) → (among T R C).components.IsWellFormed k v → (among T R C).components.Reads k ((among T R C).components.text v) ((among T R C).components.normal v)
  among_text_reads k (inl p) h = (R.text p.1, refl, r.text_reads k p.1 h)
  among_text_reads k (inr w) h = (c.components.text_reads k w h.0, ap T.alternative_of (c.same_oid w) ∙ h.1)

  among_text_normal : (k : ℕ) (v : (A × V) ⊎ W) → (among T R C).components.IsWellFormed k v → (among T R C).components.IsNormal k ((among T R C).components.text v)
  among_text_normal k (inl p) h = inl (p.0, R.text p.1, refl, r.text_normal k p.1 h)
  among_text_normal k (inr w) h =
      inr (c.components.text_normal k w h.0, no_alternative k (C.components.text w) (C.components.normal w) (c.components.text_reads k w h.0) (ap T.alternative_of (c.same_oid w) ∙ h.1))

  among_normal_reads : (k : ℕ) (b : List ℕ) → (among T R C).components.IsNormal k b → (v : (A × V) ⊎ W) × (among T R C).components.Reads k b v
  among_normal_reads k b (inl n) = let v = r.normal_reads k n.1 n.3 in (inl (n.0, v.0), (n.1, n.2, v.1))
  among_normal_reads k b (inr n) =
      let w = c.components.normal_reads k b n.0 in
      (inr w.0, (w.1, none_of (C.oid_of w.0) b (T.alternative_of (C.oid_of w.0)) refl (c.heads k b w.0 w.1) n.1))

  among_keeps : (k : ℕ) (b : List ℕ) (v : (A × V) ⊎ W) → (among T R C).components.Reads k b v → (among T R C).components.text v ≡ b → (among T R C).components.IsNormal k b
  among_keeps k b (inl (a, v)) s e = inl (a, s.0, s.1, (r.fixed k s.0 v s.2).0 (among_cut b (R.text v) s.0 a a (sym e) s.1).1)
  among_keeps k b (inr w) s e = inr ((c.components.fixed k b w s.0).0 e, no_alternative k b w s.0 s.1)

  among_kept : (k : ℕ) (b : List ℕ) (v : (A × V) ⊎ W) → (among T R C).components.Reads k b v → (among T R C).components.IsNormal k b → (among T R C).components.text v ≡ b
  among_kept k b (inl (a, v)) s (inl n) =
      ap (λ x. element 0x06 (T.oid_of a) ++ x) ((r.fixed k s.0 v s.2).1 (subst (R.IsNormal k) (among_cut b n.1 s.0 n.0 a n.2 s.1).1 n.3)) ∙ sym s.1
  among_kept k b (inl (a, v)) s (inr n) = absurd (n.1 a (s.0, s.1))
  among_kept k b (inr w) s (inl n) = absurd (no_alternative k b w s.0 s.1 n.0 (n.1, n.2))
  among_kept k b (inr w) s (inr n) = (c.components.fixed k b w s.0).1 n.0

  among_well_formed : (k : ℕ) (b : List ℕ) (v : (A × V) ⊎ W) → (among T R C).components.Reads k b v → (among T R C).components.IsWellFormed k v
  among_well_formed k b (inl p) s = r.well_formed k s.0 p.1 s.2
  among_well_formed k b (inr w) s = (c.components.well_formed k b w s.0, s.1)

  among_deeper : (k : ℕ) (b : List ℕ) (v : (A × V) ⊎ W) → (among T R C).components.Reads k b v → (among T R C).components.Reads (k + 1) b v
  among_deeper k b (inl p) s = (s.0, s.1, r.deeper k s.0 p.1 s.2)
  among_deeper k b (inr w) s = (c.components.deeper k b w s.0, s.1)

  among_same_oid : (v : (A × V) ⊎ W) → (among T R C).oid_of ((among T R C).components.normal v) ≡ (among T R C).oid_of v
  among_same_oid (inl p) = refl
  among_same_oid (inr w) = c.same_oid w

  pub lawful_among : IsLawfulChoice (among T R C)
  lawful_among = record {
    components = record {
      begins = λ k b v s. heads_begin ((among T R C).oid_of v) b (among_heads k b v s);
      one_value = among_one;
      text_reads = among_text_reads;
      text_normal = among_text_normal;
      normal_reads = among_normal_reads;
      fixed = λ k b v s. (among_keeps k b v s, among_kept k b v s);
      well_formed = among_well_formed;
      deeper = among_deeper;
    };
    heads = among_heads;
    same_oid = among_same_oid;
  }
