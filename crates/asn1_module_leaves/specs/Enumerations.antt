-- ENUMERATED whose numbers are listed: every other number is refused (X.680, 20; X.690, 8.4).
use Rattle.std.specs.Prelude.{◌≡◌, ◌≢◌, ◌⊎◌, ◌^◌, ℕ, Bool, List, [], ◌∷◌, true, false, ltb, if◌then◌else◌}
use Rattle.std.specs.Int.Digits.{number_from_digits}
use Rattle.asn1_core_element.specs.Numbers.{integer_octets, IsNumeral}
use Rattle.asn1_core_format.specs.Leaf.{Spelling}
use Rattle.asn1_core.specs.Der.{Format, leaf}

abbrev pub IsOneOf : List ℕ → ℕ → Type 0
IsOneOf [] n = ⊥
IsOneOf (m ∷ ms) n = (n ≡ m) ⊎ IsOneOf ms n

abbrev pub IsNoneOf : List ℕ → ℕ → Type 0
IsNoneOf [] n = Unit {0}
IsNoneOf (m ∷ ms) n = (n ≢ m) × IsNoneOf ms n

-- whether each fits an octet
abbrev pub all_low : List ℕ → Bool
all_low [] = true
all_low (m ∷ ms) = if ltb m (2 ^ 8) then all_low ms else false

abbrev pub numbers_in : List ℕ → Spelling ℕ
numbers_in ms = record {
  spell = integer_octets;
  IsValid = IsOneOf ms;
  IsContents = λ c. IsNumeral (2 ^ 8) c × IsOneOf ms (number_from_digits 256 c);
}

abbrev pub enumerated_in : List ℕ → Format ℕ
enumerated_in ms = leaf 0x0A (numbers_in ms)
