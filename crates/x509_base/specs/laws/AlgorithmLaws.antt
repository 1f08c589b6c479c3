-- Laws of `AlgorithmLaws.antt`.
use Rattle.std.specs.Prelude.{◌≡◌, ◌≢◌, ◌↔◌, ℕ, List, [], ◌++◌, Option, Some, None}
use Rattle.std.proofs.Common.{refl, sym, ap, ◌∙◌, arith, append-nil, length}
use Rattle.asn1_core.specs.Der.{element, IsElement, IsTagByte, element_cut, element_long, nothing, optional, IsLoosening, raw}
use Rattle.x509_base.specs.Algorithms.{null, or_null, HasParameters, null_written, algorithm_identifier}

pub null_is_element : IsElement IsTagByte null
null_is_element = record { tag = 0x05; contents = []; is_tag = omega arith; is = refl; allowed = omega arith }

-- which bytes the contents of an algorithm identifier are, whatever its parameters are
pub parts_of : (k : ℕ) (b : List ℕ) (a : algorithm_identifier.Value) → algorithm_identifier.format.Reads k b a → (p : List ℕ) × (b ≡ element 0x06 a.0 ++ p) × (optional raw nothing).Reads k p a.1
parts_of k b a s = (s.1, s.2 ∙ ap (λ x. x ++ s.1) s.3.0, s.4)

-- the bytes determine the object identifier and the parameters
pub same_parts : (o q p r : List ℕ) → element 0x06 o ++ p ≡ element 0x06 q ++ r → (o ≡ q) × (p ≡ r)
same_parts o q p r e = let c = element_cut 0x06 0x06 o q p r e in (c.1, c.2)

-- parameters that are present are all that follows the object identifier
pub some_parameters : (k : ℕ) (p x : List ℕ) → (optional raw nothing).Reads k p (Some x, tt) → (p ≡ x) × IsElement IsTagByte x
some_parameters k p x s =
    let e : p ≡ x = s.2 ∙ ap (λ c. s.0 ++ c) s.4 ∙ append-nil s.0 ∙ s.3.0 in
    let t = s.3.1 in
    (e, record { tag = t.tag; contents = t.contents; is_tag = t.is_tag; is = sym s.3.0 ∙ t.is; allowed = t.allowed })

pub element_is_some : (x : List ℕ) → IsElement IsTagByte x → x ≢ []
element_is_some x e n = omega (arith, ap length e.is, ap length n, element_long e.tag e.contents)

pub or_null_formed : (k : ℕ) (o : Option (List ℕ)) → (optional raw nothing).IsWellFormed k (o, tt) ↔ (optional raw nothing).IsWellFormed k (or_null o, tt)
or_null_formed k None = (λ h. (null_is_element, tt), λ h. (tt, tt))
or_null_formed k (Some x) = (λ h. h, λ h. h)

null_chosen : (k : ℕ) (b : List ℕ) (a : algorithm_identifier.Value) → algorithm_identifier.format.Reads k b a → (HasParameters b ↔ (null_written.written a ≡ a))
null_chosen k b (o, (None, u)) s =
    let q = parts_of k b (o, (None, u)) s in (
      λ w. absurd (w.3 (sym (same_parts o w.0 q.0 w.1 (sym q.1 ∙ w.2)).1 ∙ q.2)),
      λ e. (let i : Some null ≡ None = ap (λ x. x.1.0) e in cc),
    )
null_chosen k b (o, (Some x, u)) s =
    let q = parts_of k b (o, (Some x, u)) s in
    let p = some_parameters k q.0 x q.2 in (
      λ w. refl,
      λ e. (o, q.0, q.1, λ n. element_is_some x p.1 (sym p.0 ∙ n)),
    )

null_settled : (o : List ℕ) (p : Option (List ℕ)) → null_written.written (algorithm_identifier.format.normal (null_written.written (o, (p, tt)))) ≡ algorithm_identifier.format.normal (null_written.written (o, (p, tt)))
null_settled o None = refl
null_settled o (Some x) = refl

pub null_reread : (o : List ℕ) (p : Option (List ℕ)) → algorithm_identifier.format.normal (null_written.written (o, (p, tt))) ≡ null_written.normal (o, (p, tt))
null_reread o None = refl
null_reread o (Some x) = refl

pub null_loosening : IsLoosening algorithm_identifier.format null_written
null_loosening = record {
  proper = λ a. tt;
  preserved = λ k a h. (h.0, (or_null_formed k a.1.0).0 h.1);
  chosen = null_chosen;
  settled = λ k v h i. null_settled v.0 v.1.0;
  reread = λ k v h i. null_reread v.0 v.1.0;
  fewer = λ a. omega arith;
  reached = λ k v h i. (v, (h.0, (or_null_formed k v.1.0).1 h.1), refl, refl);
}
