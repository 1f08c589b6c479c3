-- BOOLEAN, and the explicit FALSE of a BOOLEAN DEFAULT FALSE.
use Rattle.std.specs.Prelude.{◌≡◌, ◌⊎◌, ℕ, Bool, true, false, List, [], ◌∷◌}
use Rattle.std.proofs.Common.{refl}
use Rattle.asn1_core_element.specs.Element.{element}
use Rattle.asn1_core_format.specs.Format.{Format}
use Rattle.asn1_core_format.specs.Leaf.{Spelling, leaf}

abbrev pub boolean_octets : Bool → List ℕ
boolean_octets true = 0xFF ∷ []
boolean_octets false = 0x00 ∷ []

abbrev pub booleans : Spelling Bool
booleans = record { spell = boolean_octets; IsValid = λ _. Unit {0}; IsContents = λ c. (c ≡ 0x00 ∷ []) ⊎ (c ≡ 0xFF ∷ []) }

abbrev pub boolean : Format Bool
boolean = leaf 0x01 booleans

abbrev pub explicit_false : List ℕ
explicit_false = element 0x01 (0x00 ∷ [])

pub false_reads : (k : ℕ) → boolean.Reads k explicit_false false
false_reads k = (refl, tt)
