-- The contents of an INTEGER that holds a nonnegative number: two's complement in the fewest octets (X.690, 8.3).
use Rattle.std.specs.Prelude.{◌≡◌, ℕ, ◌<◌, ◌≤◌, List, [], ◌∷◌, length, get_or, nat_lt, if◌then◌else◌}
use Rattle.std.specs.Int.Digits.{digits_of, number_from_digits, AllBelowBase}

-- the digits, after a 0 octet where the top bit of the first is set, or where there are no digits
abbrev pub with_sign : List ℕ → List ℕ
with_sign [] = 0 ∷ []
with_sign (d ∷ ds) = if nat_lt d 128 then d ∷ ds else 0 ∷ d ∷ ds

abbrev pub integer_octets : ℕ → List ℕ
integer_octets v = with_sign (digits_of 256 v)

-- The octets are the contents of an INTEGER, and the number in them is not negative and is below the bound.
pub record IsNumeral (bound : ℕ) (contents : List ℕ) : Type 0 where
  pub octets : AllBelowBase 256 contents
  pub some : 1 ≤ length contents
  pub not_negative : get_or contents 0 0 < 128
  -- the first nine bits are not all 0
  pub fewest : get_or contents 0 0 ≡ 0 → 2 ≤ length contents → 128 ≤ get_or contents 1 0
  pub below : number_from_digits 256 contents < bound
