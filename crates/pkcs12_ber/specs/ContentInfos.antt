-- ContentInfo ::= SEQUENCE { contentType ContentType, content [0] EXPLICIT ANY DEFINED BY contentType OPTIONAL }
-- (RFC 2315, 7), of which pkcs7-data is an OCTET STRING (RFC 2315, 8) of any octets
use Rattle.std.proofs.Common.{inl, inr}
use Rattle.asn1_core.specs.Asn1.{Contents, EXPLICIT, OCTET_STRING}
use Rattle.asn1_core.specs.Der.{octets_of, option_value}
use Rattle.asn1_core_oid.specs.Known.{data_oid}
use Rattle.asn1_choices.specs.ByOid.{if_oid, any_oid, chosen, alone}
use Rattle.x509_pkcs12.specs.ContentInfos.{any_content}
use Rattle.pkcs12_ber.specs.declared.content_infos.BerContentInfo.{BerContentInfo}
use Rattle.pkcs12_ber.specs.declared.content_infos.BerContentInfo.TheVariants.{Data, Unknown}

-- the octets, or another object identifier and its content
abbrev pub content_info : Contents
content_info = chosen (if_oid data_oid (alone (EXPLICIT 0 OCTET_STRING)) (any_oid any_content))

abbrev pub content_info_value : BerContentInfo → content_info.Value
content_info_value (Data octets) = inl octets.0.items
content_info_value (Unknown t c) = inr (octets_of t, (option_value (λ x. x.0.items) c, tt))
