-- Parts that are refused.
use Rattle.std.specs.Prelude.{◌≡◌, ◌⊎◌, ◌↔◌, ◌<◌, ℕ, IsTrue, Bool, false, List, length, map, slice_index_or, take}
use Rattle.std.specs.List.{AllByRecursion}
use Rattle.std.proofs.Common.{ap, arith, inl, inr, subst, sym, true≢false, ◌∙◌}
use Rattle.std.proofs.lemmas.List.{get_or_default, get_or-map, length-map, take-map}
use Rattle.asn1_core.specs.Der.{IsOid}
use Rattle.asn1_core_element.specs.declared.error.Error.TheVariants.{Invalid, Memory}
use Rattle.attribute_writers.specs.Refusals.{IsFirstWithout}
use Rattle.signed_writers.specs.Parts.{IsRefused, IsStopped}
use Rattle.signed_writers.specs.Signed.{GivenParts, IsContent, IsSigned, IsWrong, type_of}
use Rattle.signed_writers.specs.declared.checks.NotSigned.{NotSigned}
use Rattle.signed_writers.specs.declared.checks.SignedPart.TheVariants.{Content, Signer}

-- the first item that is refused, under a function
module _ {X Y : Type 0} (P : Y → Type 0) (f : X → Y) where
  first_without : (xs : List X) (i : ℕ) (x : X) → i < length xs → x ≡ slice_index_or xs i x → (P (f x) → ⊥) → AllByRecursion P (map f (take i xs)) → IsFirstWithout P (map f xs) i
  first_without xs i x l is none before = record {
    one = record { item = f x; inside = omega (arith, l, length-map xs f); is = ap f is ∙ sym (get_or-map f xs i x (f x) l); none = none };
    before = subst (AllByRecursion P) (sym (take-map f i xs)) before;
  }

  pub first_at : (xs : List X) (i : ℕ) (d : X) → i < length xs → (P (f (slice_index_or xs i d)) → ⊥) → AllByRecursion P (map f (take i xs)) → IsFirstWithout P (map f xs) i
  first_at xs i d l = first_without xs i (slice_index_or xs i d) l (get_or_default xs i d (slice_index_or xs i d) l)

  -- or memory was refused
  pub first_refused : (xs : List X) (i : ℕ) (x : X) → i < length xs → x ≡ slice_index_or xs i x → AllByRecursion P (map f (take i xs)) → (w : NotSigned) → w.part ≡ Signer → w.index ≡ i → IsRefused (P (f x)) w.error → ((w.error ≡ Invalid) × (w.part ≡ Signer) × IsFirstWithout P (map f xs) w.index) ⊎ (w.error ≡ Memory)
  first_refused xs i x l is before w part index (inl n) = inl (n.0, part, subst (IsFirstWithout P (map f xs)) (sym index) (first_without xs i x l is n.1 before))
  first_refused xs i x l is before w part index (inr m) = inr m

pub not_so : {P : Type 0} (b : Bool) → (IsTrue b ↔ P) → b ≡ false → P → ⊥
not_so b is n p = true≢false (sym (is.1 p) ∙ n)

-- content that can't be written, of a type that is an object identifier
pub content_wrong : (given : GivenParts) (w : NotSigned) → IsOid (type_of given) → (w.error ≡ Invalid) × (w.part ≡ Content) × (w.index ≡ 0) × (IsContent given.info × IsSigned given.info given.signers → ⊥) → IsStopped given w
content_wrong given w oid n = inl (n.0, subst (λ p. IsWrong given p w.index) (sym n.1) (n.2, λ f. n.3 ((oid, (f.0, tt)), f.1)))
