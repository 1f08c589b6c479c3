-- PKCS12Attribute ::= SEQUENCE { attrId OBJECT IDENTIFIER, attrValues SET OF ANY } (RFC 7292, 4.2)
-- friendlyName: SET (SIZE (1)) OF BMPString; localKeyId: SET (SIZE (1)) OF OCTET STRING (RFC 2985, 5.5)
use Rattle.std.specs.Prelude.{Option, map}
use Rattle.std.proofs.Common.{inl, inr, refl, arith, Vec, Global}
use Rattle.asn1_core.specs.Asn1.{Asn1, asn1, Contents, contents, ◌OPTIONAL◌, end, ANY, OCTET_STRING, SEQUENCE, SET_OF}
use Rattle.asn1_core.specs.Der.{octets_of, option_value, lawful_within}
use Rattle.asn1_leaves.specs.Asn1.{BMP_STRING}
use Rattle.asn1_leaves_strings.specs.Octets.{octets_of_bmp}
use Rattle.asn1_choices.specs.ByOid.{if_oid, any_oid, chosen, alone}
use Rattle.pkcs12_bags.specs.Oids.{oid}
use Rattle.pkcs12_bags.specs.declared.parts.oids.TheConstants.{FRIENDLY_NAME, LOCAL_KEY_ID}
use Rattle.pkcs12_bags.specs.declared.parts.attributes.Pkcs12Attribute.{Pkcs12Attribute}
use Rattle.pkcs12_bags.specs.declared.parts.attributes.Pkcs12Attribute.TheVariants.{FriendlyName, LocalKeyId, Unknown}

-- SET (SIZE (1)) OF
abbrev pub SET_OF_ONE : Asn1 → Asn1
SET_OF_ONE a = asn1 (lawful_within a.format a.law.components 0x31 (omega arith))

-- a name; or an identifier; or an object identifier and any values
abbrev pub pkcs12_attribute : Contents
pkcs12_attribute =
    chosen (if_oid (oid FRIENDLY_NAME) (alone (SET_OF_ONE BMP_STRING))
    (if_oid (oid LOCAL_KEY_ID) (alone (SET_OF_ONE OCTET_STRING))
    (any_oid (alone (SET_OF ANY)))))

abbrev pub pkcs12_attribute_value : Pkcs12Attribute → pkcs12_attribute.Value
pkcs12_attribute_value (FriendlyName n) = inl (octets_of_bmp n)
pkcs12_attribute_value (LocalKeyId i) = inr (inl i.0.items)
pkcs12_attribute_value (Unknown o vs) = inr (inr (octets_of o, map (λ v. v.0.items) vs.items))

-- the attributes of a bag: absent, or a set, which may be empty
abbrev pub attributes : Contents
attributes = contents (SET_OF (SEQUENCE pkcs12_attribute) OPTIONAL end) refl

abbrev pub AttributesValue : Type 0
AttributesValue = attributes.Value

abbrev pub attributes_value : Option (Vec Pkcs12Attribute Global) → AttributesValue
attributes_value a = (option_value (λ v. map pkcs12_attribute_value v.items) a, tt)
