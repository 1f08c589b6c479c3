-- The contents octets of an object identifier (X.690, 8.19): groups (its subidentifiers), each a number in base 128.
use Rattle.std.specs.Prelude.{◌≡◌, ◌≢◌, ℕ, ◌+◌, ◌/◌, ◌%◌, List, [], ◌∷◌, ◌++◌, map}
use Rattle.std.specs.List.{flat_map}
use Rattle.std.specs.Int.Digits.{digits_of}

-- a number in the fewest digits of base 128, 0 in one, an octet each, highest first; all but the last have bit 8 set
abbrev pub base128 : ℕ → List ℕ
base128 n = map (λ d. 0x80 + d) (digits_of 128 (n / 128)) ++ n % 128 ∷ []

-- one group or more, and nothing else
pub record IsOid (octets : List ℕ) : Type 0 where
  pub groups : List ℕ
  pub some : groups ≢ []
  pub spelled : octets ≡ flat_map base128 groups
