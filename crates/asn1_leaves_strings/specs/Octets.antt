-- The contents octets that a value holds.
use Rattle.std.specs.Prelude.{ℕ, List, ◌∷◌}
use Rattle.asn1_leaves_strings.specs.declared.bit_string.BitString.{BitString}
use Rattle.asn1_leaves_strings.specs.declared.bmp_string.BmpString.{BmpString}
use Rattle.asn1_leaves_strings.specs.declared.ia5_string.IA5String.{IA5String}
use Rattle.asn1_leaves_strings.specs.declared.utf8_string.Utf8String.{Utf8String}

abbrev pub octets_of_bmp : BmpString → List ℕ
octets_of_bmp s = s.octets.items

abbrev pub octets_of_ia5 : IA5String → List ℕ
octets_of_ia5 s = s.octets.items

abbrev pub octets_of_utf8 : Utf8String → List ℕ
octets_of_utf8 s = s.octets.items

abbrev pub unused_of : BitString → ℕ
unused_of b = b.unused

abbrev pub bytes_of : BitString → List ℕ
bytes_of b = b.bytes.items

abbrev pub contents_of : BitString → List ℕ
contents_of b = unused_of b ∷ bytes_of b
