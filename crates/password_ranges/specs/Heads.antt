-- What the parameters of RFC 8018 and those that hold an algorithm are read as, whatever the algorithms in them are.
use Rattle.std.specs.Prelude.{◌^◌, ℕ, List, [], ◌∷◌}
use Rattle.std.proofs.Common.{refl}
use Rattle.asn1_core.specs.Asn1.{Asn1, asn1, Contents, EXPLICIT, IMPLICIT, INTEGER_BELOW, OBJECT_IDENTIFIER, OCTET_STRING, SEQUENCE, VERSION, contents, end, ◌then◌, ◌OPTIONAL◌}
use Rattle.asn1_core.specs.Der.{arcs, lawful_only_oid}
use Rattle.pkcs12_algs.specs.Pbkdf2.{pbkdf2_salt_source}
use Rattle.x509_base.specs.Algorithms.{algorithm_identifier}

-- AlgorithmIdentifier ::= SEQUENCE { algorithm OBJECT IDENTIFIER, parameters ANY DEFINED BY algorithm OPTIONAL }
abbrev pub ALGORITHM : Asn1
ALGORITHM = SEQUENCE algorithm_identifier

-- PBES2-params ::= SEQUENCE { keyDerivationFunc AlgorithmIdentifier {{PBES2-KDFs}}, encryptionScheme AlgorithmIdentifier
--   {{PBES2-Encs}} } (RFC 8018, appendix A.4)
abbrev pub pbes2_head : Contents
pbes2_head = contents (ALGORITHM then ALGORITHM then end) refl

-- PBKDF2-params ::= SEQUENCE { salt CHOICE { specified OCTET STRING, otherSource AlgorithmIdentifier
--   {{PBKDF2-SaltSources}} }, iterationCount INTEGER (1..MAX), keyLength INTEGER (1..MAX) OPTIONAL, prf
--   AlgorithmIdentifier {{PBKDF2-PRFs}} DEFAULT algid-hmacWithSHA1 } (RFC 8018, appendix A.2). Counts and lengths from 0
--   to 2^32 - 1 are read, and prf may be absent.
abbrev pub pbkdf2_head : Contents
pbkdf2_head =
    contents (pbkdf2_salt_source then INTEGER_BELOW (2 ^ 32) then INTEGER_BELOW (2 ^ 32) OPTIONAL ALGORITHM OPTIONAL end) refl

-- EncryptedPrivateKeyInfo ::= SEQUENCE { encryptionAlgorithm AlgorithmIdentifier, encryptedData OCTET STRING } (RFC 5958, 3)
abbrev pub encrypted_key_head : Contents
encrypted_key_head = contents (ALGORITHM then OCTET_STRING then end) refl

-- EncryptedContentInfo ::= SEQUENCE { contentType ContentType, contentEncryptionAlgorithm AlgorithmIdentifier,
--   encryptedContent [0] IMPLICIT OCTET STRING OPTIONAL } (RFC 5652, 6.1)
abbrev pub encrypted_content_head : Contents
encrypted_content_head = contents (OBJECT_IDENTIFIER then ALGORITHM then IMPLICIT 0 OCTET_STRING OPTIONAL end) refl

-- EncryptedData ::= SEQUENCE { version Version (0), encryptedContentInfo EncryptedContentInfo } (RFC 2315, 13)
abbrev pub encrypted_data_head : Contents
encrypted_data_head = contents (VERSION 0 refl then SEQUENCE encrypted_content_head then end) refl

-- encryptedData (RFC 5652, 8)
abbrev pub encrypted_data_oid : List ℕ
encrypted_data_oid = arcs (1 ∷ 2 ∷ 840 ∷ 113549 ∷ 1 ∷ 7 ∷ 6 ∷ [])

-- ContentInfo ::= SEQUENCE { contentType ContentType, content [0] EXPLICIT ANY DEFINED BY contentType } (RFC 5652, 3) of
--   encryptedData
abbrev pub encrypted_info_head : Contents
encrypted_info_head = contents (asn1 (lawful_only_oid encrypted_data_oid) then EXPLICIT 0 (SEQUENCE encrypted_data_head) then end) refl
