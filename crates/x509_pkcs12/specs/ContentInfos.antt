-- ContentInfo ::= SEQUENCE { contentType ContentType, content [0] EXPLICIT ANY DEFINED BY contentType OPTIONAL }
-- (RFC 2315, 7) of pkcs7-data, an OCTET STRING around SafeContents; of pkcs7-encryptedData, an EncryptedData:
-- EncryptedData ::= SEQUENCE { version Version (0), encryptedContentInfo EncryptedContentInfo } (RFC 2315, 13)
use Rattle.std.proofs.Common.{inl, inr, arith, refl}
use Rattle.asn1_core.specs.Asn1.{asn1, Contents, contents, ◌then◌, ◌OPTIONAL◌, end, ANY, EXPLICIT, SEQUENCE, VERSION}
use Rattle.asn1_core.specs.Der.{Format, within, octets_of, option_value, IsLawful, lawful_within, explicit}
use Rattle.pkcs12_bags.specs.Bags.{safe_contents}
use Rattle.pkcs12_bags.specs.laws.BagsLaws.{lawful_safe_contents}
use Rattle.pkcs12_bags.specs.BagValues.{contents_value}
use Rattle.asn1_choices.specs.ByOid.{if_oid, any_oid, chosen, alone}
use Rattle.pkcs12_bags.specs.EncryptedContents.{encrypted_safe_contents, encrypted_safe_contents_value}
use Rattle.pkcs12_bags.specs.Oids.{data_oid, oid}
use Rattle.pkcs12_bags.specs.declared.parts.oids.TheConstants.{ENCRYPTED_DATA}
use Rattle.x509_pkcs12.specs.declared.content_infos.SafeContentsContentInfo.{SafeContentsContentInfo}
use Rattle.x509_pkcs12.specs.declared.content_infos.SafeContentsContentInfo.TheVariants.{Data, EncryptedData, Unknown}

-- an encoding of F in the OCTET STRING of pkcs7-data
abbrev pub data_content : {V : Type 0} → Format V → Format V
data_content F = explicit 0 (within 0x04 F)

pub lawful_data_content : {V : Type 0} (F : Format V) → IsLawful F → IsLawful (data_content F)
lawful_data_content F f = lawful_within (within 0x04 F) (lawful_within F f.components 0x04 (omega arith)).components 0xA0 (omega arith)

abbrev pub encrypted_data : Contents
encrypted_data = contents (VERSION 0 refl then SEQUENCE encrypted_safe_contents then end) refl

-- any content, or none
abbrev pub any_content : Contents
any_content = contents (EXPLICIT 0 ANY OPTIONAL end) refl

-- bags; encrypted bags; or an object identifier and its content
abbrev pub safe_contents_content_info : Contents
safe_contents_content_info =
    chosen (if_oid data_oid (alone (asn1 (lawful_data_content safe_contents lawful_safe_contents)))
    (if_oid (oid ENCRYPTED_DATA) (alone (EXPLICIT 0 (SEQUENCE encrypted_data)))
    (any_oid any_content)))

abbrev pub safe_contents_content_info_value : SafeContentsContentInfo → safe_contents_content_info.Value
safe_contents_content_info_value (Data c) = inl (contents_value c)
safe_contents_content_info_value (EncryptedData c) = inr (inl (0, (encrypted_safe_contents_value c, tt)))
safe_contents_content_info_value (Unknown t c) = inr (inr (octets_of t, (option_value (λ x. x.0.items) c, tt)))
