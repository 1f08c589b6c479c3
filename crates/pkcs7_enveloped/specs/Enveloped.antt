-- EnvelopedData ::= SEQUENCE { version CMSVersion, originatorInfo [0] IMPLICIT OriginatorInfo OPTIONAL, recipientInfos
--   RecipientInfos, encryptedContentInfo EncryptedContentInfo, unprotectedAttrs [1] IMPLICIT UnprotectedAttributes
--   OPTIONAL } (RFC 5652, 6.1)
use Rattle.std.specs.Prelude.{ℕ, List, Option, map}
use Rattle.std.proofs.Common.{refl}
use Rattle.asn1_core.specs.Asn1.{Contents, contents, ◌then◌, ◌OPTIONAL◌, end, OBJECT_IDENTIFIER, OCTET_STRING, IMPLICIT, SEQUENCE}
use Rattle.asn1_core.specs.Der.{Format, sequence, part, optional, nothing, set_of, number_below, octets_of, option_value, implicit, SeesEqual, der_equal}
use Rattle.pkcs7_content.specs.Versions.{number_of}
use Rattle.pkcs7_signed_crl.specs.Certificates.{certificate_set_value, certificate_set}
use Rattle.pkcs7_signed_crl.specs.Revocations.{revocation_info_choices_value, revocation_info_choices}
use Rattle.x509_base.specs.Algorithms.{algorithm_identifier}
use Rattle.x509_base.specs.AlgorithmParts.{algorithm_identifier_value}
use Rattle.x509_base.specs.Names.{attribute, attribute_value}
use Rattle.pkcs7_enveloped.specs.declared.enveloped.EncryptedContentInfo.{EncryptedContentInfo}
use Rattle.pkcs7_enveloped.specs.declared.enveloped.EnvelopedData.{EnvelopedData}
use Rattle.pkcs7_enveloped.specs.declared.enveloped.OriginatorInfo.{OriginatorInfo}
use Rattle.x509_base.specs.BaseEqual.{x509_equal}
use Rattle.pkcs7_signed_crl.specs.PartsEqual.{certificate_set_equal, revocation_info_choices_equal}
use Rattle.pkcs7_enveloped.specs.contracts.enveloped.EncryptedContentInfoPartialEq.TheImpl as Encrypted
use Rattle.pkcs7_enveloped.specs.contracts.enveloped.OriginatorInfoPartialEq.TheImpl as Originator

-- EncryptedContentInfo ::= SEQUENCE { contentType ContentType, contentEncryptionAlgorithm
--   ContentEncryptionAlgorithmIdentifier, encryptedContent [0] IMPLICIT EncryptedContent OPTIONAL }
abbrev pub encrypted_content_info : Contents
encrypted_content_info = contents (OBJECT_IDENTIFIER then SEQUENCE algorithm_identifier then IMPLICIT 0 OCTET_STRING OPTIONAL end) refl

abbrev pub encrypted_content_info_value : EncryptedContentInfo → encrypted_content_info.Value
encrypted_content_info_value x = (octets_of x.content_type.0, (algorithm_identifier_value x.content_encryption_algorithm, (option_value (λ c. c.0.0.items) x.encrypted_content.0, tt)))

-- OriginatorInfo ::= SEQUENCE { certs [0] IMPLICIT CertificateSet OPTIONAL, crls [1] IMPLICIT RevocationInfoChoices
--   OPTIONAL }
abbrev pub originator_info : Contents
originator_info = contents (IMPLICIT 0 certificate_set OPTIONAL IMPLICIT 1 revocation_info_choices OPTIONAL end) refl

abbrev pub originator_info_value : OriginatorInfo → originator_info.Value
originator_info_value x = (option_value (λ c. certificate_set_value c.0) x.certs.0, (option_value (λ c. revocation_info_choices_value c.0) x.crls.0, tt))

-- SET OF Attribute, under [1] IMPLICIT
abbrev pub attributes : Format (List attribute.Value)
attributes = set_of (SEQUENCE attribute).format

-- over the values and the format of recipients
abbrev pub EnvelopedValue : Type 0 → Type 0
EnvelopedValue V = ℕ × (Option originator_info.Value × (List V × (encrypted_content_info.Value × (Option (List attribute.Value) × Unit {0}))))

abbrev pub enveloped_value : {R V : Type 0} → (R → V) → EnvelopedData R → EnvelopedValue V
enveloped_value value x = (
  number_of x.version,
  (
    option_value (λ o. originator_info_value o.0) x.originator_info.0,
    (
      map value x.recipient_infos.0.items,
      (encrypted_content_info_value x.encrypted_content_info, (option_value (λ a. map attribute_value a.0.0.items) x.unprotected_attrs.0, tt)),
    ),
  ),
)

abbrev pub enveloped : {V : Type 0} → Format V → Format (EnvelopedValue V)
enveloped F =
    sequence (part (number_below 6) (optional (implicit 0xA0 0x30 (SEQUENCE originator_info).format) (part (set_of F)
    (part (SEQUENCE encrypted_content_info).format (optional (implicit 0xA1 0x31 attributes) nothing)))))

pub encrypted_content_equal : SeesEqual Encrypted.ghosts.eq encrypted_content_info_value
encrypted_content_equal x y = search x509_equal depth 20

pub originator_equal : SeesEqual Originator.ghosts.eq originator_info_value
originator_equal x y = search (der_equal, certificate_set_equal, revocation_info_choices_equal) depth 20
