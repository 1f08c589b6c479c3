-- `==` of leaves is equality of what they contain.
use Rattle.std.proofs.Common.{rules}
use Rattle.asn1_core.specs.Der.{SeesEqual}
use Rattle.asn1_leaves_strings.specs.Octets.{contents_of, octets_of_bmp, octets_of_ia5, octets_of_utf8}
use Rattle.asn1_leaves.specs.contracts.integers.IntegerAsn1PartialEq.TheImpl as Integers
use Rattle.asn1_leaves.specs.contracts.bits.BitStringAsn1PartialEq.TheImpl as Bits
use Rattle.asn1_leaves.specs.contracts.strings.BmpStringAsn1PartialEq.TheImpl as Bmps
use Rattle.asn1_leaves.specs.contracts.strings.IA5StringAsn1PartialEq.TheImpl as Ia5s
use Rattle.asn1_leaves.specs.contracts.strings.Utf8StringAsn1PartialEq.TheImpl as Utf8s
use Rattle.asn1_core.specs.contracts.booleans.DefaultFalsePartialEq.TheImpl as Booleans
use Rattle.asn1_module_leaves.specs.contracts.enumerated.EnumeratedAsn1PartialEq.TheImpl as Enumerateds
use Rattle.asn1_module_leaves.specs.contracts.constants.NullAsn1PartialEq.TheImpl as Nulls

pub integer_equal : SeesEqual Integers.ghosts.eq (λ x. x.0.items)
integer_equal x y = search rules

pub bits_equal : SeesEqual Bits.ghosts.eq (λ x. contents_of x.0)
bits_equal x y = search rules

pub bmp_equal : SeesEqual Bmps.ghosts.eq (λ x. octets_of_bmp x.0)
bmp_equal x y = search rules

pub ia5_equal : SeesEqual Ia5s.ghosts.eq (λ x. octets_of_ia5 x.0)
ia5_equal x y = search rules

pub utf8_equal : SeesEqual Utf8s.ghosts.eq (λ x. octets_of_utf8 x.0)
utf8_equal x y = search rules

pub boolean_equal : SeesEqual Booleans.ghosts.eq (λ x. x.0)
boolean_equal x y = search rules

pub enumerated_equal : SeesEqual Enumerateds.ghosts.eq (λ x. x.0)
enumerated_equal x y = search rules

pub null_equal : SeesEqual Nulls.ghosts.eq (λ _. tt {0})
null_equal x y = search rules
