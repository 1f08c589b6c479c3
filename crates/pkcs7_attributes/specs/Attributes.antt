-- SignedAttributes ::= SET OF Attribute, under its tag [0] IMPLICIT (RFC 5652, 5.3)
use Rattle.std.specs.Prelude.{ℕ, List, [], map}
use Rattle.std.proofs.Common.{arith}
use Rattle.asn1_core.specs.Asn1.{Asn1, asn1_tagged, list_of, SEQUENCE}
use Rattle.asn1_core.specs.Der.{SeesEqual, element, lawful_implicit_set, within_tagged}
use Rattle.x509_base.specs.BaseEqual.{x509_equal}
use Rattle.x509_base.specs.Names.{attribute, attribute_value}
use Rattle.pkcs7_attributes.specs.contracts.attributes.AttributesPartialEq.TheImpl as AttributesEq
use Rattle.pkcs7_attributes.specs.declared.attributes.Attributes.{Attributes}

abbrev pub attributes : Asn1
attributes = asn1_tagged (lawful_implicit_set (omega arith) (SEQUENCE attribute).law) 0xA0 (within_tagged 0xA0 (omega arith) (list_of (SEQUENCE attribute)).format)

abbrev pub attributes_value : Attributes → attributes.Value
attributes_value x = map attribute_value x.0.0.items

-- the empty set, which is left out
abbrev pub no_attributes : List ℕ
no_attributes = element 0xA0 []

pub attributes_equal : SeesEqual AttributesEq.ghosts.eq attributes_value
attributes_equal x y = search x509_equal depth 20
