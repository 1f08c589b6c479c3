-- The octets of NULL.
use Rattle.std.specs.Prelude.{◌≡◌, ℕ, List, [], ◌∷◌, Option, Some}
use Rattle.std.proofs.Common.{ap, refl}
use Rattle.asn1_core_element.specs.Element.{head, length_octets}
use Rattle.password_ranges.specs.Parameters.{AlgorithmValue}
use Rattle.x509_base.specs.Algorithms.{null}

null_is : 0x05 ∷ 0x00 ∷ [] ≡ null
unfolding head length_octets
null_is = refl

-- an algorithm whose parameters are NULL
pub with_null : (oid : List ℕ) → ◌≡◌ {A = Option AlgorithmValue} (Some (oid, (Some (0x05 ∷ 0x00 ∷ []), tt))) (Some (oid, (Some null, tt)))
with_null oid = ap (λ n. Some (oid, (Some n, tt))) null_is
