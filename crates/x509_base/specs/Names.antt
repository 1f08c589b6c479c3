-- Name ::= SEQUENCE OF SET OF AttributeTypeAndValue (RFC 5280, 4.1.2.4)
-- AttributeTypeAndValue ::= SEQUENCE { type OBJECT IDENTIFIER, value ANY }
-- Attribute ::= SEQUENCE { type OBJECT IDENTIFIER, values SET OF ANY } (RFC 5652, 5.3)
use Rattle.std.specs.Prelude.{map}
use Rattle.std.proofs.Common.{refl, rules}
use Rattle.asn1_core.specs.Asn1.{Contents, contents, ◌then◌, end, OBJECT_IDENTIFIER, ANY, SET_OF, SEQUENCE, list_of}
use Rattle.asn1_core.specs.Der.{SeesEqual, der_equal, octets_of}
use Rattle.x509_base.specs.contracts.names.AttributePartialEq.TheImpl as AttributeEq
use Rattle.x509_base.specs.contracts.names.NamePartialEq.TheImpl as NameEq
use Rattle.x509_base.specs.contracts.names.NameValuePartialEq.TheImpl as NameValueEq
use Rattle.x509_base.specs.declared.names.NameValue.{NameValue}
use Rattle.x509_base.specs.declared.names.Name.{Name}
use Rattle.x509_base.specs.declared.names.Attribute.{Attribute}

abbrev pub name_value : Contents
name_value = contents (OBJECT_IDENTIFIER then ANY then end) refl

abbrev pub name_value_value : NameValue → name_value.Value
name_value_value x = (octets_of x.ty.0, (x.value.0.items, tt))

pub name_value_equal : SeesEqual NameValueEq.ghosts.eq name_value_value
name_value_equal x y = search rules

abbrev pub name : Contents
name = list_of (SET_OF (SEQUENCE name_value))

-- the value of a `Name`: `name_value` is the contents of a `NameValue`
abbrev pub name_parts : Name → name.Value
name_parts x = map (λ s. map name_value_value s.0.items) x.0.0.items

pub name_equal : SeesEqual NameEq.ghosts.eq name_parts
name_equal x y = search (der_equal, name_value_equal) depth 20

abbrev pub attribute : Contents
attribute = contents (OBJECT_IDENTIFIER then SET_OF ANY then end) refl

abbrev pub attribute_value : Attribute → attribute.Value
attribute_value x = (octets_of x.ty.0, (map (λ v. v.0.items) x.value.0.items, tt))

pub attribute_equal : SeesEqual AttributeEq.ghosts.eq attribute_value
attribute_equal x y = search (der_equal, rules) depth 20
