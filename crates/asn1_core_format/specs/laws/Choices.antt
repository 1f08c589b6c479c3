-- Laws of `Choices.antt`.
use Rattle.std.specs.Prelude.{◌≡◌, ◌≢◌, ◌⊎◌, ℕ, ◌+◌, List, ◌++◌}
use Rattle.std.proofs.Common.{refl, sym, ap, ◌∙◌, subst, inl, inr, arith}
use Rattle.asn1_core_element.specs.Element.{element}
use Rattle.asn1_core_element.specs.laws.ElementLaws.{element_cut}
use Rattle.asn1_core_format.specs.Format.{Format, BeginsBy, IsLawfulComponents}
use Rattle.asn1_core_format.specs.laws.ComponentLaws.{lawful_part}
use Rattle.asn1_core_format.specs.Leaf.{leaf, verbatim}
use Rattle.asn1_core_format.specs.laws.LeafLaws.{lawful_leaf, lawful_verbatim}
use Rattle.asn1_core_format.specs.Choices.{Choice, Heads, IsLawfulChoice, known, otherwise}

pub same_head : (o p : List ℕ) (b : List ℕ) → Heads o b → Heads p b → o ≡ p
same_head o p b h i = (element_cut 0x06 0x06 o p h.0 i.0 (sym h.1 ∙ i.1)).1

pub heads_begin : (o b : List ℕ) → Heads o b → BeginsBy (λ t. t ≡ 0x06) b
heads_begin o b h = inr (element 0x06 o, h.0, h.1, record { tag = 0x06; contents = o; is_tag = omega arith; is = refl; allowed = refl })

pub lawful_otherwise : {V : Type 0} (IsOid : List ℕ → Type 0) (R : Format V) → IsLawfulComponents R → IsLawfulChoice (otherwise IsOid R)
lawful_otherwise IsOid R r = record {
  components = lawful_part (leaf 0x06 (verbatim IsOid)) R (lawful_leaf 0x06 (omega arith) (verbatim IsOid) (lawful_verbatim IsOid)) r;
  heads = λ k b v s. (s.1, s.2 ∙ ap (λ a. a ++ s.1) s.3.0);
  same_oid = λ v. refl;
}

module _ {V W : Type 0} (o : List ℕ) (R : Format V) (C : Choice W) (r : IsLawfulComponents R) (c : IsLawfulChoice C) where
  cut : (b x y : List ℕ) → b ≡ element 0x06 o ++ x → b ≡ element 0x06 o ++ y → x ≡ y
  cut b x y p q = (element_cut 0x06 0x06 o o x y (sym p ∙ q)).2

  known_heads : (k : ℕ) (b : List ℕ) (v : V ⊎ W) → (known o R C).components.Reads k b v → Heads ((known o R C).oid_of v) b
  known_heads k b (inl v) s = (s.0, s.1)
  known_heads k b (inr w) s = c.heads k b w s.0

  other_head : (k : ℕ) (b : List ℕ) (w : W) → C.components.Reads k b w → (C.oid_of w ≢ o) → Heads o b → ⊥
  other_head k b w s n h = n (same_head (C.oid_of w) o b (c.heads k b w s) h)

  known_one : (k : ℕ) (b : List ℕ) (v u : V ⊎ W) → (known o R C).components.Reads k b v → (known o R C).components.Reads k b u → v ≡ u
  known_one k b (inl v) (inl u) s t = ap inl (r.one_value k s.0 v u s.2 (subst (λ x. R.Reads k x u) (cut b t.0 s.0 t.1 s.1) t.2))
  known_one k b (inl v) (inr u) s t = absurd (other_head k b u t.0 t.1 (s.0, s.1))
  known_one k b (inr v) (inl u) s t = absurd (other_head k b v s.0 s.1 (t.0, t.1))
  known_one k b (inr v) (inr u) s t = ap inr (c.components.one_value k b v u s.0 t.0)

  known_text_reads : (k : ℕ) (v : V ⊎ W) → (known o R C).components.IsWellFormed k v → (known o R C).components.Reads k ((known o R C).components.text v) ((known o R C).components.normal v)
  known_text_reads k (inl v) h = (R.text v, refl, r.text_reads k v h)
  known_text_reads k (inr w) h = (c.components.text_reads k w h.0, λ e. h.1 (sym (c.same_oid w) ∙ e))

  known_text_normal : (k : ℕ) (v : V ⊎ W) → (known o R C).components.IsWellFormed k v → (known o R C).components.IsNormal k ((known o R C).components.text v)
  known_text_normal k (inl v) h = inl (R.text v, refl, r.text_normal k v h)
  known_text_normal k (inr w) h =
      inr (c.components.text_normal k w h.0, other_head k (C.components.text w) (C.components.normal w) (c.components.text_reads k w h.0) (λ e. h.1 (sym (c.same_oid w) ∙ e)))

  known_normal_reads : (k : ℕ) (b : List ℕ) → (known o R C).components.IsNormal k b → (v : V ⊎ W) × (known o R C).components.Reads k b v
  known_normal_reads k b (inl n) = let v = r.normal_reads k n.0 n.2 in (inl v.0, (n.0, n.1, v.1))
  known_normal_reads k b (inr n) =
      let w = c.components.normal_reads k b n.0 in
      (inr w.0, (w.1, λ e. n.1 (subst (λ p. Heads p b) e (c.heads k b w.0 w.1))))

  known_keeps : (k : ℕ) (b : List ℕ) (v : V ⊎ W) → (known o R C).components.Reads k b v → (known o R C).components.text v ≡ b → (known o R C).components.IsNormal k b
  known_keeps k b (inl v) s e = inl (s.0, s.1, (r.fixed k s.0 v s.2).0 (cut b (R.text v) s.0 (sym e) s.1))
  known_keeps k b (inr w) s e = inr ((c.components.fixed k b w s.0).0 e, other_head k b w s.0 s.1)

  known_kept : (k : ℕ) (b : List ℕ) (v : V ⊎ W) → (known o R C).components.Reads k b v → (known o R C).components.IsNormal k b → (known o R C).components.text v ≡ b
  known_kept k b (inl v) s (inl n) = ap (λ x. element 0x06 o ++ x) ((r.fixed k s.0 v s.2).1 (subst (R.IsNormal k) (cut b n.0 s.0 n.1 s.1) n.2)) ∙ sym s.1
  known_kept k b (inl v) s (inr n) = absurd (n.1 (s.0, s.1))
  known_kept k b (inr w) s (inl n) = absurd (other_head k b w s.0 s.1 (n.0, n.1))
  known_kept k b (inr w) s (inr n) = (c.components.fixed k b w s.0).1 n.0

  known_well_formed : (k : ℕ) (b : List ℕ) (v : V ⊎ W) → (known o R C).components.Reads k b v → (known o R C).components.IsWellFormed k v
  known_well_formed k b (inl v) s = r.well_formed k s.0 v s.2
  known_well_formed k b (inr w) s = (c.components.well_formed k b w s.0, s.1)

  known_deeper : (k : ℕ) (b : List ℕ) (v : V ⊎ W) → (known o R C).components.Reads k b v → (known o R C).components.Reads (k + 1) b v
  known_deeper k b (inl v) s = (s.0, s.1, r.deeper k s.0 v s.2)
  known_deeper k b (inr w) s = (c.components.deeper k b w s.0, s.1)

  known_same_oid : (v : V ⊎ W) → (known o R C).oid_of ((known o R C).components.normal v) ≡ (known o R C).oid_of v
  known_same_oid (inl v) = refl
  known_same_oid (inr w) = c.same_oid w

  pub lawful_known : IsLawfulChoice (known o R C)
  lawful_known = record {
    components = record {
      begins = λ k b v s. heads_begin ((known o R C).oid_of v) b (known_heads k b v s);
      one_value = known_one;
      text_reads = known_text_reads;
      text_normal = known_text_normal;
      normal_reads = known_normal_reads;
      fixed = λ k b v s. (known_keeps k b v s, known_kept k b v s);
      well_formed = known_well_formed;
      deeper = known_deeper;
    };
    heads = known_heads;
    same_oid = known_same_oid;
  }
