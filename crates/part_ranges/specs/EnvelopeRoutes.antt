-- The ways to the parts of enveloped data, with recipients of every kind.
-- ContentInfo ::= SEQUENCE { contentType ContentType, content [0] EXPLICIT EnvelopedData } (RFC 5652, 3)
-- EnvelopedData ::= SEQUENCE { version CMSVersion, originatorInfo [0] IMPLICIT OriginatorInfo OPTIONAL, recipientInfos
--   SET OF RecipientInfo, encryptedContentInfo EncryptedContentInfo, unprotectedAttrs [1] IMPLICIT UnprotectedAttributes
--   OPTIONAL } (RFC 5652, 6.1)
-- EncryptedContentInfo ::= SEQUENCE { contentType ContentType, contentEncryptionAlgorithm
--   ContentEncryptionAlgorithmIdentifier, encryptedContent [0] IMPLICIT OCTET STRING OPTIONAL } (RFC 5652, 6.1)
use Rattle.std.specs.Prelude.{[]}
use Rattle.std.proofs.Common.{refl, arith}
use Rattle.asn1_core.specs.Asn1.{Asn1, asn1, end, ◌then◌, ◌OPTIONAL◌, INTEGER_BELOW, OCTET_STRING, OBJECT_IDENTIFIER, ANY, IMPLICIT, SET_OF, SEQUENCE}
use Rattle.asn1_core.specs.Der.{each, lawful_explicit, lawful_only_oid}
use Rattle.asn1_located.specs.Places.{Route}
use Rattle.asn1_located.specs.Routes.{Tagged, as_is, component, enclosed, octets, under, with_tag, ◌before◌, ◌here◌, ◌maybe◌, ◌there◌, ◌▸◌}
use Rattle.part_ranges.specs.Enveloped.{enveloped_data_oid, enveloped_file}
use Rattle.pkcs7_enveloped.specs.Enveloped.{encrypted_content_info, enveloped, originator_info}
use Rattle.pkcs7_enveloped.specs.laws.Enveloped.{lawful_enveloped}
use Rattle.x509_base.specs.Algorithms.{algorithm_identifier}
use Rattle.x509_base.specs.Names.{attribute}

abbrev pub ALGORITHM : Asn1
ALGORITHM = SEQUENCE algorithm_identifier

abbrev pub PAST_ORIGINATOR : Tagged
PAST_ORIGINATOR = with_tag 0xA0 (IMPLICIT 0 (SEQUENCE originator_info)) refl

-- EnvelopedData, in the ContentInfo
abbrev pub enveloped_data : Route enveloped_file.Reads (enveloped ANY.format).Reads
enveloped_data =
    component 0x30 (omega arith) (asn1 (lawful_only_oid enveloped_data_oid) before asn1 (lawful_explicit {tag = 0xA0} (omega arith) (lawful_enveloped ANY.format ANY.law)) here end) refl
    ▸ enclosed 0xA0 (omega arith) (enveloped ANY.format)

-- the recipients
abbrev pub recipients : Route enveloped_file.Reads (each ANY.format).Reads
recipients =
    enveloped_data
    ▸ component 0x30 (omega arith) (INTEGER_BELOW 6 before PAST_ORIGINATOR maybe SET_OF ANY here SEQUENCE encrypted_content_info then IMPLICIT 1 (SET_OF (SEQUENCE attribute)) OPTIONAL end) refl
    ▸ enclosed 0x31 (omega arith) (each ANY.format)

abbrev pub content_info : Route enveloped_file.Reads (SEQUENCE encrypted_content_info).format.Reads
content_info =
    enveloped_data
    ▸ component 0x30 (omega arith) (INTEGER_BELOW 6 before PAST_ORIGINATOR maybe SET_OF ANY before SEQUENCE encrypted_content_info here IMPLICIT 1 (SET_OF (SEQUENCE attribute)) OPTIONAL end) refl

abbrev pub encryption_algorithm : Route enveloped_file.Reads ALGORITHM.format.Reads
encryption_algorithm = content_info ▸ component 0x30 (omega arith) (OBJECT_IDENTIFIER before ALGORITHM here IMPLICIT 0 OCTET_STRING OPTIONAL end) refl

-- the octets of encryptedContent
abbrev pub encrypted_content : Route enveloped_file.Reads as_is
encrypted_content =
    content_info
    ▸ component 0x30 (omega arith) (OBJECT_IDENTIFIER before ALGORITHM before IMPLICIT 0 OCTET_STRING there end) refl
    ▸ under 0x80 0x04 (omega arith) OCTET_STRING.format (octets 0x04 (omega arith) (λ _. Unit {0})) [] refl
