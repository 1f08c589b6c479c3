-- The types of this crate in the notation of X.680.
use Rattle.std.specs.Str.{IsUtf8}
use Rattle.std.proofs.Common.{arith}
use Rattle.asn1_core_format.specs.Asn1.{Asn1, asn1_tagged}
use Rattle.asn1_core_format.specs.Leaf.{verbatim}
use Rattle.asn1_core_format.specs.laws.TaggedLaws.{leaf_tagged}
use Rattle.asn1_leaves_strings.specs.Bits.{IsBits}
use Rattle.asn1_leaves_strings.specs.Bmp.{IsBmp}
use Rattle.asn1_leaves_strings.specs.Ia5.{IsIa5}
use Rattle.asn1_leaves.specs.Integers.{some_octets}
use Rattle.asn1_leaves.specs.laws.Integers.{lawful_integer}
use Rattle.asn1_leaves.specs.laws.Strings.{lawful_bit_string, lawful_bmp_string, lawful_ia5_string, lawful_utf8_string}
use Rattle.asn1_leaves.specs.Times.{utc_spelling, generalized_spelling}
use Rattle.asn1_leaves.specs.laws.Times.{lawful_utc_time, lawful_generalized_time}

abbrev pub INTEGER : Asn1
INTEGER = asn1_tagged lawful_integer 0x02 (leaf_tagged 0x02 (omega arith) some_octets)

abbrev pub BIT_STRING : Asn1
BIT_STRING = asn1_tagged lawful_bit_string 0x03 (leaf_tagged 0x03 (omega arith) (verbatim IsBits))

abbrev pub UTF8_STRING : Asn1
UTF8_STRING = asn1_tagged lawful_utf8_string 0x0C (leaf_tagged 0x0C (omega arith) (verbatim IsUtf8))

abbrev pub IA5_STRING : Asn1
IA5_STRING = asn1_tagged lawful_ia5_string 0x16 (leaf_tagged 0x16 (omega arith) (verbatim IsIa5))

abbrev pub UTC_TIME : Asn1
UTC_TIME = asn1_tagged lawful_utc_time 0x17 (leaf_tagged 0x17 (omega arith) utc_spelling)

abbrev pub GENERALIZED_TIME : Asn1
GENERALIZED_TIME = asn1_tagged lawful_generalized_time 0x18 (leaf_tagged 0x18 (omega arith) generalized_spelling)

abbrev pub BMP_STRING : Asn1
BMP_STRING = asn1_tagged lawful_bmp_string 0x1E (leaf_tagged 0x1E (omega arith) (verbatim IsBmp))
