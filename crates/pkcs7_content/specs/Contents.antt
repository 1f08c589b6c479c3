-- EncapsulatedContentInfo ::= SEQUENCE { eContentType ContentType, eContent [0] EXPLICIT OCTET STRING OPTIONAL }
-- (RFC 5652, 5.2; ContentType ::= OBJECT IDENTIFIER). In signatures of Authenticode and in signed trust lists it is no
-- octet string, but an SpcIndirectDataContent or a CertificateTrustList (RFC 2315, 7: ANY DEFINED BY contentType).
use Rattle.asn1_core.specs.Asn1.{SEQUENCE}
use Rattle.std.specs.Prelude.{◌⊎◌, ℕ, List, Option, Some, if◌then◌else◌}
use Rattle.asn1_core.specs.Der.{Format, part, optional, nothing, octet_string, option_value, Octets, OidOctets, octets_of, explicit, either, SeesEqual, der_equal, octets_equal, same_first, same_second}
use Rattle.std.specs.Str.{bytes_eq}
use Rattle.std.proofs.Common.{inl, inr}
use Rattle.asn1_choices.specs.DefinedBy.{DefinedBy, Alternative, alternative, by_itself, only_written}
use Rattle.pkcs7_content.specs.IndirectData.{spc_indirect_data_content, spc_indirect_data_content_value, spc_indirect_data_content_equal}
use Rattle.pkcs7_content.specs.Oids.{data_oid, indirect_data_oid, trust_list_oid}
use Rattle.pkcs7_content.specs.declared.contents.Kind.{Kind}
use Rattle.pkcs7_content.specs.declared.contents.Kind.TheVariants.{IndirectData, TrustList, PlainData, Foreign}
use Rattle.pkcs7_content.specs.TrustLists.{ctl, ctl_value, ctl_equal}
use Rattle.pkcs7_content.specs.declared.contents.ContentValue.{ContentValue}
use Rattle.pkcs7_content.specs.declared.contents.ContentValue.TheVariants as Content
use Rattle.asn1_core.specs.declared.explicit.ExplicitContextTag0.{ExplicitContextTag0}
use Rattle.pkcs7_content.specs.declared.contents.EncapsulatedContentInfo.{EncapsulatedContentInfo}
use Rattle.pkcs7_content.specs.contracts.contents.ContentValuePartialEq.TheImpl as ContentEq
use Rattle.pkcs7_content.specs.contracts.contents.EncapsulatedContentInfoPartialEq.TheImpl as EncapsulatedEq

-- indirect data, octets, data, or a trust list
abbrev pub ContentValues : Type 0
ContentValues = spc_indirect_data_content.Value ⊎ (Octets ⊎ (Octets ⊎ ctl.Value))

abbrev pub content_value : ContentValue → ContentValues
content_value (Content.SpcIndirectDataContent x) = inl (spc_indirect_data_content_value x)
content_value (Content.OctetString x) = inr (inl x.0.items)
content_value (Content.Data x) = inr (inr (inl x.0.items))
content_value (Content.CertificateTrustList x) = inr (inr (inr (ctl_value x)))

abbrev pub content_values : Format ContentValues
content_values = only_written (either (SEQUENCE spc_indirect_data_content).format (either octet_string (either octet_string (SEQUENCE ctl).format)))

abbrev pub ContentComponents : Type 0
ContentComponents = Option ContentValues × Unit {0}

abbrev pub content_components_value : Option (ExplicitContextTag0 ContentValue) → ContentComponents
content_components_value c = (option_value (λ x. content_value x.0) c, tt)

abbrev pub written_content : Format ContentComponents
written_content = optional (explicit 0 content_values) nothing

abbrev pub content_kind : List ℕ → Kind
content_kind o =
    if bytes_eq o indirect_data_oid then IndirectData
    else if bytes_eq o trust_list_oid then TrustList
    else if bytes_eq o data_oid then PlainData
    else Foreign

-- the content is plain octets, or none
abbrev pub IsPlain : Kind → Type 0
IsPlain IndirectData = ⊥
IsPlain TrustList = ⊥
IsPlain PlainData = Unit {0}
IsPlain Foreign = Unit {0}

-- octets as data, and data as octets
abbrev pub as_data : ContentValues → ContentValues
as_data (inl x) = inl x
as_data (inr (inl x)) = inr (inr (inl x))
as_data (inr (inr x)) = inr (inr x)

abbrev pub as_octets : ContentValues → ContentValues
as_octets (inl x) = inl x
as_octets (inr (inl x)) = inr (inl x)
as_octets (inr (inr (inl x))) = inr (inl x)
as_octets (inr (inr (inr x))) = inr (inr (inr x))

-- plain octets, or none
abbrev pub OctetsComponents : Type 0
OctetsComponents = Option Octets × Unit {0}

abbrev pub octets_components : Format OctetsComponents
octets_components = optional (explicit 0 octet_string) nothing

-- Data and octets have the same encoding. It is read as data after id-data, and as octets after an object identifier
-- that isn't known.
abbrev pub to_data : Alternative Octets ContentValues
to_data = record { put = λ x. inr (inr (inl x)); brought = as_data }

abbrev pub to_octets : Alternative Octets ContentValues
to_octets = record { put = λ x. inr (inl x); brought = as_octets }

-- the same for content that may be absent
abbrev pub perhaps_in : Alternative Octets ContentValues → Alternative OctetsComponents ContentComponents
perhaps_in m = record { put = λ p. (option_value m.put p.0, p.1); brought = λ c. (option_value m.brought c.0, c.1) }

abbrev pub data_alternative : Alternative OctetsComponents ContentComponents
data_alternative = perhaps_in to_data

abbrev pub octets_alternative : Alternative OctetsComponents ContentComponents
octets_alternative = perhaps_in to_octets

abbrev pub content_components : Kind → Format ContentComponents
content_components IndirectData = alternative written_content (by_itself (λ p. (Some (inl p.0), p.1))) (part (explicit 0 (SEQUENCE spc_indirect_data_content).format) nothing)
content_components TrustList = alternative written_content (by_itself (λ p. (Some (inr (inr (inr p.0))), p.1))) (part (explicit 0 (SEQUENCE ctl).format) nothing)
content_components PlainData = alternative written_content data_alternative octets_components
content_components Foreign = alternative written_content octets_alternative octets_components

abbrev pub content_defined_by : DefinedBy ContentComponents
content_defined_by = record { text = written_content.text; components = λ o. content_components (content_kind o) }

abbrev pub encapsulated_content_info_value : EncapsulatedContentInfo → OidOctets × ContentComponents
encapsulated_content_info_value x = (octets_of x.content_type.0, content_components_value x.content)

pub content_value_equal : SeesEqual ContentEq.ghosts.eq content_value
content_value_equal (Content.SpcIndirectDataContent x) (Content.SpcIndirectDataContent y) = same_first (spc_indirect_data_content_equal x y)
content_value_equal (Content.OctetString x) (Content.OctetString y) = same_second (same_first (octets_equal x y))
content_value_equal (Content.Data x) (Content.Data y) = same_second (same_second (same_first (octets_equal x y)))
content_value_equal (Content.CertificateTrustList x) (Content.CertificateTrustList y) = same_second (same_second (same_second (ctl_equal x y)))
content_value_equal x y = (λ e. cc, λ e. cc)

pub encapsulated_content_info_equal : SeesEqual EncapsulatedEq.ghosts.eq encapsulated_content_info_value
encapsulated_content_info_equal x y = search (der_equal, content_value_equal) depth 20
