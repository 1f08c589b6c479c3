-- Text as a BMPString: one unit for each character.
use Rattle.std.specs.Prelude.{◌≡◌, ℕ, ◌<◌, ◌^◌, List}
use Rattle.std.specs.List.{All, flat_map}
use Rattle.asn1_leaves_strings.specs.Bmp.{unit_octets}
use Rattle.asn1_leaves_strings.specs.declared.string_error.StringError.{StringError}
use Rattle.asn1_leaves_strings.specs.declared.string_error.StringError.TheVariants.{CharSet, Memory}

-- a character that fits a unit of 16 bits
abbrev pub IsOneUnit : ℕ → Type 0
IsOneUnit character = character < 2 ^ 16

-- the octets are those of the characters, each of which fits its unit
abbrev pub HoldsUnits : List ℕ → List ℕ → Type 0
HoldsUnits characters octets = (octets ≡ flat_map unit_octets characters) × All IsOneUnit characters

-- only a character that fits no unit is outside the character set
abbrev pub WhyRefused : List ℕ → StringError → Type 0
WhyRefused characters (CharSet e) = ¬ (All IsOneUnit characters)
WhyRefused characters Memory = Unit {0}
