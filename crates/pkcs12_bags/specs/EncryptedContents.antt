-- EncryptedContentInfo ::= SEQUENCE { contentType ContentType, contentEncryptionAlgorithm AlgorithmIdentifier,
--   encryptedContent [0] IMPLICIT OCTET STRING OPTIONAL } (RFC 2315, 10.1), with contentType pkcs7-data (RFC 7292, 4.1)
use Rattle.asn1_core.specs.Asn1.{asn1, Contents, contents, ◌then◌, ◌OPTIONAL◌, end, OCTET_STRING, IMPLICIT, SEQUENCE}
use Rattle.asn1_core.specs.Der.{Format, octet_string, option_value, Octets, lawful_only_oid, implicit, context_tag}
use Rattle.pkcs12_algs.specs.Encryption.{pkcs12_encryption_algorithm_value, pkcs12_encryption_algorithm}
use Rattle.pkcs12_bags.specs.Oids.{data_oid}
use Rattle.pkcs12_bags.specs.declared.parts.encrypted_contents.EncryptedSafeContents.{EncryptedSafeContents}
use Rattle.std.proofs.Common.{refl}

abbrev pub encrypted_octets : Format Octets
encrypted_octets = implicit (context_tag 0 0x04) 0x04 octet_string

abbrev pub encrypted_safe_contents : Contents
encrypted_safe_contents =
    contents (asn1 (lawful_only_oid data_oid) then SEQUENCE pkcs12_encryption_algorithm then IMPLICIT 0 OCTET_STRING OPTIONAL end) refl

abbrev pub encrypted_safe_contents_value : EncryptedSafeContents → encrypted_safe_contents.Value
encrypted_safe_contents_value c = (data_oid, (pkcs12_encryption_algorithm_value c.algorithm, (option_value (λ o. o.0.items) c.encrypted_content, tt)))
