-- BIT STRING and the restricted character strings, whose contents octets are kept.
use Rattle.std.specs.Prelude.{ℕ, List}
use Rattle.std.specs.Str.{IsUtf8}
use Rattle.asn1_core_format.specs.Format.{Format}
use Rattle.asn1_core_format.specs.Leaf.{leaf, verbatim}
use Rattle.asn1_leaves_strings.specs.Bits.{IsBits}
use Rattle.asn1_leaves_strings.specs.Bmp.{IsBmp}
use Rattle.asn1_leaves_strings.specs.Ia5.{IsIa5}

abbrev pub bit_string : Format (List ℕ)
bit_string = leaf 0x03 (verbatim IsBits)

abbrev pub bmp_string : Format (List ℕ)
bmp_string = leaf 0x1E (verbatim IsBmp)

abbrev pub ia5_string : Format (List ℕ)
ia5_string = leaf 0x16 (verbatim IsIa5)

abbrev pub utf8_string : Format (List ℕ)
utf8_string = leaf 0x0C (verbatim IsUtf8)
