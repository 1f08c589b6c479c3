-- Laws of `Strings.antt`.
use Rattle.std.specs.Str.{IsUtf8}
use Rattle.std.proofs.Common.{arith}
use Rattle.asn1_core_format.specs.Format.{IsLawful}
use Rattle.asn1_core_format.specs.Leaf.{verbatim}
use Rattle.asn1_core_format.specs.laws.LeafLaws.{lawful_leaf, lawful_verbatim}
use Rattle.asn1_leaves_strings.specs.Bits.{IsBits}
use Rattle.asn1_leaves_strings.specs.Bmp.{IsBmp}
use Rattle.asn1_leaves_strings.specs.Ia5.{IsIa5}
use Rattle.asn1_leaves.specs.Strings.{bit_string, bmp_string, ia5_string, utf8_string}

pub lawful_bit_string : IsLawful bit_string
lawful_bit_string = lawful_leaf 0x03 (omega arith) (verbatim IsBits) (lawful_verbatim IsBits)

pub lawful_bmp_string : IsLawful bmp_string
lawful_bmp_string = lawful_leaf 0x1E (omega arith) (verbatim IsBmp) (lawful_verbatim IsBmp)

pub lawful_ia5_string : IsLawful ia5_string
lawful_ia5_string = lawful_leaf 0x16 (omega arith) (verbatim IsIa5) (lawful_verbatim IsIa5)

pub lawful_utf8_string : IsLawful utf8_string
lawful_utf8_string = lawful_leaf 0x0C (omega arith) (verbatim IsUtf8) (lawful_verbatim IsUtf8)
