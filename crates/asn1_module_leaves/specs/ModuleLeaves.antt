-- ENUMERATED by its number, and strings as their contents octets under any universal tag.
use Rattle.std.specs.Prelude.{ℕ, ◌^◌, ◌%◌}
use Rattle.asn1_core.specs.Der.{Format, leaf, numbers_below, any_octets, Octets}

abbrev pub enumerated : Format ℕ
enumerated = leaf 0x0A (numbers_below (2 ^ 8))

-- any contents under the universal tag n
abbrev pub kept_octets : ℕ → Format Octets
kept_octets n = leaf (n % 31) any_octets
