-- The ways to the parts of a store whose bags aren't encrypted, and of its bags.
-- PFX ::= SEQUENCE { version INTEGER {v3(3)}(v3,...), authSafe ContentInfo, macData MacData OPTIONAL } (RFC 7292, 4)
-- AuthenticatedSafe ::= SEQUENCE OF ContentInfo (RFC 7292, 4.1)
-- ContentInfo ::= SEQUENCE { contentType ContentType, content [0] EXPLICIT ANY DEFINED BY contentType OPTIONAL } (RFC 2315, 7)
-- SafeContents ::= SEQUENCE OF SafeBag, SafeBag ::= SEQUENCE { bagId OBJECT IDENTIFIER, bagValue [0] EXPLICIT ANY,
--   bagAttributes SET OF Attribute OPTIONAL } (RFC 7292, 4.2)
-- CertBag ::= SEQUENCE { certId OBJECT IDENTIFIER, certValue [0] EXPLICIT ANY DEFINED BY certId } (RFC 7292, 4.2.3), and
-- CRLBag alike (4.2.4)
-- Attribute ::= SEQUENCE { attrType OBJECT IDENTIFIER, attrValues SET OF ANY } (RFC 5652, 5.3)
use Rattle.std.specs.Prelude.{◌≡◌, ℕ, List}
use Rattle.std.proofs.Common.{refl, arith}
use Rattle.asn1_core.specs.Asn1.{Asn1, asn1, end, ◌OPTIONAL◌, OBJECT_IDENTIFIER, OCTET_STRING, ANY, EXPLICIT, SET_OF, SEQUENCE}
use Rattle.asn1_core.specs.Der.{OidOctets, each, lawful_raw, lawful_version_3, leaf, raw, verbatim, within}
use Rattle.asn1_choices.specs.ByOid.{alone, any_oid}
use Rattle.asn1_core_element.specs.Element.{IsTagByte}
use Rattle.asn1_located.specs.Places.{Route}
use Rattle.asn1_located.specs.Routes.{again, as_is, component, enclosed, fixed, item, known_body, octets, opened, ◌before◌, ◌here◌, ◌there◌, ◌▸◌}
use Rattle.bag_ranges.specs.OtherBodies.{other_body}
use Rattle.bag_ranges.specs.RawContentInfos.{raw_content_info}
use Rattle.pkcs12_algs.specs.Digests.{mac_data}
use Rattle.pkcs12_bags.specs.BagParts.{encrypted_key_bag, x509_bag}
use Rattle.pkcs12_bags.specs.Oids.{oid}
use Rattle.x509_base.specs.Names.{attribute}
use Rattle.x509_pkcs12.specs.AuthSafes.{auth_safe}
use Rattle.x509_pkcs12.specs.laws.AuthSafes.{lawful_auth_safe}
use Rattle.x509_pkcs12.specs.MacRoutes.{mac_route}
use Rattle.x509_pkcs12.specs.Pfxs.{pfx}
use Rattle.x509_pkcs12.specs.RawBags.{raw_safe_bag, raw_safe_contents}

abbrev pub BAG : Asn1
BAG = SEQUENCE raw_safe_bag

abbrev pub SAFE : Asn1
SAFE = SEQUENCE raw_safe_contents

abbrev pub CONTENT : Asn1
CONTENT = SEQUENCE raw_content_info

abbrev pub ATTRIBUTE : Asn1
ATTRIBUTE = SEQUENCE attribute

-- the element that a bag's value is
abbrev pub bag_value : Route BAG.format.Reads ANY.format.Reads
bag_value = component 0x30 (omega arith) (OBJECT_IDENTIFIER before EXPLICIT 0 ANY here SET_OF ATTRIBUTE OPTIONAL end) refl ▸ enclosed 0xA0 (omega arith) ANY.format

-- the octets of an X.509 certificate or revocation list, whose object identifier has that number
abbrev pub x509_octets : ℕ → Route BAG.format.Reads as_is
x509_octets number =
    bag_value
    ▸ opened (SEQUENCE (x509_bag number)).format
    ▸ again
    (known_body (oid number) (EXPLICIT 0 OCTET_STRING).format (any_oid (alone (EXPLICIT 0 ANY))).choice
    ▸ enclosed 0xA0 (omega arith) OCTET_STRING.format
    ▸ octets 0x04 (omega arith) (λ _. Unit {0}))

-- the element of one of another type
abbrev pub other_element : ℕ → Route BAG.format.Reads (fixed ANY.format.Reads)
other_element number =
    bag_value
    ▸ opened (SEQUENCE (x509_bag number)).format
    ▸ again (other_body (oid number) (EXPLICIT 0 OCTET_STRING).format (EXPLICIT 0 ANY).format ▸ enclosed 0xA0 (omega arith) ANY.format)

-- an encrypted key
abbrev pub encrypted_key : Route BAG.format.Reads (fixed (SEQUENCE encrypted_key_bag).format.Reads)
encrypted_key = bag_value ▸ opened (SEQUENCE encrypted_key_bag).format

-- the attributes of a bag
abbrev pub bag_attributes : Route BAG.format.Reads (SET_OF ATTRIBUTE).format.Reads
bag_attributes = component 0x30 (omega arith) (OBJECT_IDENTIFIER before EXPLICIT 0 ANY before SET_OF ATTRIBUTE there end) refl

abbrev pub values : Route ATTRIBUTE.format.Reads (SET_OF ANY).format.Reads
values = component 0x30 (omega arith) (OBJECT_IDENTIFIER before SET_OF ANY here end) refl

-- the values of an attribute of that type
abbrev pub values_of : OidOctets → Route ATTRIBUTE.format.Reads (SET_OF ANY).format.Reads
values_of type = record { steps = values.steps; IsPart = λ a w. (a.0 ≡ type) × values.IsPart a w; found = λ k a w o m x s. values.found k a w o.1 m x s }

-- The octets of the first value of an attribute: the attribute of a bag with the index has that type, and its first value is
-- a string with the tag, whose octets are these.
abbrev pub attribute_octets : OidOctets → (tag : ℕ) → IsTagByte tag → (P : List ℕ → Type 0) → ℕ → Route BAG.format.Reads as_is
attribute_octets type tag h P j =
    bag_attributes
    ▸ item 0x31 (omega arith) ATTRIBUTE.format ATTRIBUTE.law j
    ▸ values_of type
    ▸ item 0x31 (omega arith) ANY.format ANY.law 0
    ▸ opened (leaf tag (verbatim P))
    ▸ again (octets tag h P)

-- from a SafeContents to its bags
abbrev pub bags_in : Route SAFE.format.Reads (each BAG.format).Reads
bags_in = enclosed 0x30 (omega arith) (each BAG.format)

-- from a content to its element
abbrev pub content_element : Route CONTENT.format.Reads ANY.format.Reads
content_element = component 0x30 (omega arith) (OBJECT_IDENTIFIER before EXPLICIT 0 ANY there end) refl ▸ enclosed 0xA0 (omega arith) ANY.format

-- from data to the SafeContents in them
abbrev pub safe_in_data : Route CONTENT.format.Reads (fixed SAFE.format.Reads)
safe_in_data =
    content_element
    ▸ opened (within 0x04 SAFE.format)
    ▸ again (enclosed 0x04 (omega arith) SAFE.format)

-- from a store to its authSafe
abbrev pub auth_safe_element : Route (pfx raw).Reads (auth_safe raw).Reads
auth_safe_element = component 0x30 (omega arith) (asn1 lawful_version_3 before asn1 (lawful_auth_safe raw lawful_raw) here SEQUENCE mac_data OPTIONAL end) refl

-- from a store whose authSafe is data to its contents
abbrev pub store_contents : Route (pfx raw).Reads (fixed (each CONTENT.format).Reads)
store_contents = mac_route ▸ opened (within 0x30 (each CONTENT.format)) ▸ again (enclosed 0x30 (omega arith) (each CONTENT.format))
