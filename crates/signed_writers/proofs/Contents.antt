-- An OCTET STRING is an element.
use Rattle.std.specs.Prelude.{◌↔◌, ℕ, true, IsTrue, List}
use Rattle.std.proofs.Common.{arith, refl}
use Rattle.asn1_core.specs.Der.{IsElement, IsTagByte, octet_string}

pub octets_formed : (x : List ℕ) → IsTrue true ↔ IsElement IsTagByte (octet_string.text x)
octets_formed x = (λ e. record { tag = 0x04; contents = x; is_tag = omega arith; is = refl; allowed = omega arith }, λ i. refl)
