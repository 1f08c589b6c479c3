-- UnsignedAttributes ::= SET SIZE (1..MAX) OF Attribute, under its tag [1] IMPLICIT (RFC 5652, 5.3)
use Rattle.std.specs.Prelude.{ℕ, List, [], map}
use Rattle.std.proofs.Common.{arith}
use Rattle.asn1_core.specs.Asn1.{Asn1, asn1_tagged, list_of, SEQUENCE}
use Rattle.asn1_core.specs.Der.{SeesEqual, der_equal, element, lawful_implicit_set, within_tagged}
use Rattle.x509_base.specs.Names.{attribute, attribute_equal, attribute_value}
use Rattle.pkcs7_attributes.specs.contracts.unsigned_attributes.RawUnsignedAttributesPartialEq.TheImpl as Unsigned
use Rattle.pkcs7_attributes.specs.declared.unsigned_attributes.RawUnsignedAttributes.{RawUnsignedAttributes}

abbrev pub raw_unsigned_attributes : Asn1
raw_unsigned_attributes = asn1_tagged (lawful_implicit_set (omega arith) (SEQUENCE attribute).law) 0xA1 (within_tagged 0xA1 (omega arith) (list_of (SEQUENCE attribute)).format)

abbrev pub raw_unsigned_attributes_value : RawUnsignedAttributes → raw_unsigned_attributes.Value
raw_unsigned_attributes_value x = map attribute_value x.0.items

-- the empty set, which is left out
abbrev pub no_unsigned_attributes : List ℕ
no_unsigned_attributes = element 0xA1 []

pub raw_unsigned_attributes_equal : SeesEqual Unsigned.ghosts.eq raw_unsigned_attributes_value
raw_unsigned_attributes_equal x y = search (der_equal, attribute_equal) depth 20
