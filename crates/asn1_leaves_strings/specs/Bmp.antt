-- The octets of a BMPString: units of 16 bits, each a character of the Basic Multilingual Plane, the high octet first.
use Rattle.std.specs.Prelude.{◌≡◌, ℕ, ◌/◌, ◌%◌, ◌^◌, ◌<◌, ◌≤◌, List, [], ◌∷◌}
use Rattle.std.specs.List.{All, flat_map}

-- a unit that UTF-16 uses in pairs, and that is no character by itself
abbrev pub IsSurrogate : ℕ → Type 0
IsSurrogate unit = (0xD800 ≤ unit) × (unit ≤ 0xDFFF)

abbrev pub IsBmpUnit : ℕ → Type 0
IsBmpUnit unit = (unit < 2 ^ 16) × ¬ (IsSurrogate unit)

abbrev pub unit_octets : ℕ → List ℕ
unit_octets unit = (unit / 256) ∷ (unit % 256) ∷ []

-- the octets are those of some units, in order
pub record IsBmp (octets : List ℕ) : Type 0 where
  pub units : List ℕ
  pub each : All IsBmpUnit units
  pub is : octets ≡ flat_map unit_octets units
