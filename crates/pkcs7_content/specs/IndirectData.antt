-- What Authenticode signs.
-- SpcAttributeTypeAndOptionalValue ::= SEQUENCE { type OBJECT IDENTIFIER, value ANY DEFINED BY type }, the value being
-- an SpcPeImageData or an SpcSipInfo
use Rattle.std.specs.Prelude.{◌⊎◌, ℕ, List, ◌≡◌, if◌then◌else◌}
use Rattle.asn1_core.specs.Asn1.{Contents, contents, ◌then◌, end, SEQUENCE}
use Rattle.asn1_core.specs.Der.{Format, OidOctets, IsLawfulComponents, octets_of, either, SeesEqual, der_equal, same_first, same_second}
use Rattle.std.specs.Str.{bytes_eq}
use Rattle.std.proofs.Common.{rules, inl, inr, refl}
use Rattle.asn1_choices.specs.DefinedBy.{DefinedBy, any_defined_by, alternative, by_itself, no_alternative, only_written}
use Rattle.x509_base.specs.Digests.{digest_info, digest_info_value}
use Rattle.pkcs7_content.specs.Oids.{pe_image_oid, sip_info_oid}
use Rattle.pkcs7_content.specs.PeImages.{spc_pe_image_data_value, spc_pe_image_data_equal}
use Rattle.pkcs7_content.specs.SipInfos.{spc_sip_info, spc_sip_info_value, spc_sip_info_equal}
use Rattle.pkcs7_content.specs.declared.indirect_data.Subject.{Subject}
use Rattle.pkcs7_content.specs.declared.indirect_data.Subject.TheVariants.{PeImage, SipInfo, Foreign}
use Rattle.asn1_choices.specs.DefinedByLaws.{IsDefinedBy}
use Rattle.asn1_choices.specs.laws.DefinedByLaws.{itself, lawful_alternative, lawful_no_alternative, lawful_any_defined_by}
use Rattle.pkcs7_content.specs.PeImageLaws.{spc_pe_image_data}
use Rattle.pkcs7_content.specs.declared.indirect_data.SpcAttributeAndOptionalValueValue.{SpcAttributeAndOptionalValueValue}
use Rattle.pkcs7_content.specs.declared.indirect_data.SpcAttributeAndOptionalValueValue.TheVariants as Spc
use Rattle.pkcs7_content.specs.declared.indirect_data.SpcAttributeAndOptionalValue.{SpcAttributeAndOptionalValue}
use Rattle.pkcs7_content.specs.declared.indirect_data.SpcIndirectDataContent.{SpcIndirectDataContent}
use Rattle.x509_base.specs.contracts.digests.DigestInfoPartialEq.TheImpl as DigestEq
use Rattle.pkcs7_content.specs.contracts.indirect_data.SpcAttributeAndOptionalValueValuePartialEq.TheImpl as ValueEq
use Rattle.pkcs7_content.specs.contracts.indirect_data.SpcAttributeAndOptionalValuePartialEq.TheImpl as AttributeEq
use Rattle.pkcs7_content.specs.contracts.indirect_data.SpcIndirectDataContentPartialEq.TheImpl as IndirectEq

abbrev pub SpcValue : Type 0
SpcValue = spc_pe_image_data.Value ⊎ spc_sip_info.Value

abbrev pub spc_value : SpcAttributeAndOptionalValueValue → SpcValue
spc_value (Spc.SpcPeImageData x) = inl (spc_pe_image_data_value x)
spc_value (Spc.SpcSipInfo x) = inr (spc_sip_info_value x)

abbrev pub spc_values : Format SpcValue
spc_values = only_written (either spc_pe_image_data.format (SEQUENCE spc_sip_info).format)

-- what an object identifier says is signed
abbrev pub subject_of : List ℕ → Subject
subject_of o = if bytes_eq o pe_image_oid then PeImage else if bytes_eq o sip_info_oid then SipInfo else Foreign

abbrev pub spc_components : Subject → Format SpcValue
spc_components PeImage = alternative spc_values (by_itself inl) spc_pe_image_data.format
spc_components SipInfo = alternative spc_values (by_itself inr) (SEQUENCE spc_sip_info).format
spc_components Foreign = no_alternative spc_values

abbrev pub spc_defined_by : DefinedBy SpcValue
spc_defined_by = record { text = spc_values.text; components = λ o. spc_components (subject_of o) }

lawful_spc_components : (s : Subject) → IsLawfulComponents (spc_components s)
lawful_spc_components PeImage = lawful_alternative spc_values _ spc_pe_image_data.format (itself (λ a. refl) (λ a. refl) (λ a. refl)) spc_pe_image_data.law.components
lawful_spc_components SipInfo = lawful_alternative spc_values _ (SEQUENCE spc_sip_info).format (itself (λ a. refl) (λ a. refl) (λ a. refl)) (SEQUENCE spc_sip_info).law.components
lawful_spc_components Foreign = lawful_no_alternative spc_values

written_alike : (s : Subject) (v : SpcValue) → (spc_components s).text v ≡ spc_values.text v
written_alike PeImage v = refl
written_alike SipInfo v = refl
written_alike Foreign v = refl

pub spc_is_defined_by : IsDefinedBy spc_defined_by
spc_is_defined_by = record { lawful = λ o. lawful_spc_components (subject_of o); alike = λ o v. written_alike (subject_of o) v }

abbrev pub spc_attribute : Contents
spc_attribute = record { Value = OidOctets × SpcValue; format = any_defined_by spc_defined_by; law = lawful_any_defined_by spc_defined_by spc_is_defined_by }

abbrev pub spc_attribute_value : SpcAttributeAndOptionalValue → spc_attribute.Value
spc_attribute_value x = (octets_of x.ty.0, spc_value x.value)

-- SpcIndirectDataContent ::= SEQUENCE { data SpcAttributeTypeAndOptionalValue, messageDigest DigestInfo }
abbrev pub spc_indirect_data_content : Contents
spc_indirect_data_content = contents (SEQUENCE spc_attribute then SEQUENCE digest_info then end) refl

abbrev pub spc_indirect_data_content_value : SpcIndirectDataContent → spc_indirect_data_content.Value
spc_indirect_data_content_value x = (spc_attribute_value x.spc_data, (digest_info_value x.message_digest, tt))

pub spc_value_equal : SeesEqual ValueEq.ghosts.eq spc_value
spc_value_equal (Spc.SpcPeImageData x) (Spc.SpcPeImageData y) = same_first (spc_pe_image_data_equal x y)
spc_value_equal (Spc.SpcSipInfo x) (Spc.SpcSipInfo y) = same_second (spc_sip_info_equal x y)
spc_value_equal x y = (λ e. cc, λ e. cc)

pub spc_attribute_equal : SeesEqual AttributeEq.ghosts.eq spc_attribute_value
spc_attribute_equal x y = search (der_equal, spc_value_equal) depth 20

digest_equal : SeesEqual DigestEq.ghosts.eq digest_info_value
digest_equal x y = search rules

pub spc_indirect_data_content_equal : SeesEqual IndirectEq.ghosts.eq spc_indirect_data_content_value
spc_indirect_data_content_equal x y = search (der_equal, spc_attribute_equal, digest_equal) depth 20
