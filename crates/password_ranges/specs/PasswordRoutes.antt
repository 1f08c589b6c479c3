-- The ways to the parts of an algorithm identifier that encrypts with a password, and to the algorithm in what holds it.
use Rattle.std.specs.Prelude.{◌≡◌, ◌^◌, []}
use Rattle.std.proofs.Common.{refl, subst, arith, inl}
use Rattle.asn1_core.specs.Asn1.{ANY, EXPLICIT, IMPLICIT, INTEGER_BELOW, OBJECT_IDENTIFIER, OCTET_STRING, SEQUENCE, VERSION, asn1, end, ◌then◌, ◌OPTIONAL◌}
use Rattle.asn1_core.specs.Der.{Format, IsOid, lawful_only_oid, raw}
use Rattle.asn1_located.specs.Places.{Route}
use Rattle.asn1_located.specs.Routes.{Tagged, again, as_is, component, enclosed, fixed, octets, opened, under, with_tag, ◌before◌, ◌here◌, ◌maybe◌, ◌there◌, ◌▸◌}
use Rattle.password_ranges.specs.Heads.{ALGORITHM, encrypted_content_head, encrypted_data_head, encrypted_data_oid, encrypted_info_head, encrypted_key_head, pbes2_head, pbkdf2_head}
use Rattle.pkcs12_algs.specs.Pbes1.{pbes1_params}
use Rattle.pkcs12_algs.specs.Pbkdf2.{pbkdf2_salt_source}

-- AlgorithmIdentifier ::= SEQUENCE { algorithm OBJECT IDENTIFIER, parameters ANY DEFINED BY algorithm OPTIONAL }
abbrev pub algorithm_oid : Route ALGORITHM.format.Reads as_is
algorithm_oid = component 0x30 (omega arith) (OBJECT_IDENTIFIER here ANY OPTIONAL end) refl ▸ octets 0x06 (omega arith) IsOid

abbrev pub parameters : Route ALGORITHM.format.Reads raw.Reads
parameters = component 0x30 (omega arith) (OBJECT_IDENTIFIER before ANY there end) refl

-- the parameters, by a type of their own
abbrev pub parameters_as : {P : Type 0} (G : Format P) → Route ALGORITHM.format.Reads (fixed G.Reads)
parameters_as G = parameters ▸ opened G

-- pkcs-12PbeParams ::= SEQUENCE { salt OCTET STRING, iterations INTEGER } (RFC 7292, appendix C), and PBEParameter alike
--   (RFC 8018, appendix A.3)
abbrev pub only_salt : Route ALGORITHM.format.Reads as_is
only_salt =
    parameters_as (SEQUENCE pbes1_params).format
    ▸ again (component 0x30 (omega arith) (OCTET_STRING here INTEGER_BELOW (2 ^ 32) then end) refl)
    ▸ again (octets 0x04 (omega arith) (λ _. Unit {0}))

-- PBES2-params ::= SEQUENCE { keyDerivationFunc AlgorithmIdentifier, encryptionScheme AlgorithmIdentifier }
abbrev pub pbes2 : Route ALGORITHM.format.Reads (fixed (SEQUENCE pbes2_head).format.Reads)
pbes2 = parameters_as (SEQUENCE pbes2_head).format

abbrev pub derivation : Route ALGORITHM.format.Reads (fixed ALGORITHM.format.Reads)
derivation = pbes2 ▸ again (component 0x30 (omega arith) (ALGORITHM here ALGORITHM then end) refl)

abbrev pub derivation_oid : Route ALGORITHM.format.Reads as_is
derivation_oid = derivation ▸ again algorithm_oid

abbrev pub derivation_parameters : Route ALGORITHM.format.Reads (fixed raw.Reads)
derivation_parameters = derivation ▸ again parameters

abbrev pub encryption : Route ALGORITHM.format.Reads (fixed ALGORITHM.format.Reads)
encryption = pbes2 ▸ again (component 0x30 (omega arith) (ALGORITHM before ALGORITHM here end) refl)

abbrev pub encryption_oid : Route ALGORITHM.format.Reads as_is
encryption_oid = encryption ▸ again algorithm_oid

abbrev pub encryption_parameters : Route ALGORITHM.format.Reads (fixed raw.Reads)
encryption_parameters = encryption ▸ again parameters

-- the initialization vector of AES, DES and triple DES in CBC mode, an OCTET STRING (RFC 8018, appendix B.2)
abbrev pub vector : Route ALGORITHM.format.Reads as_is
vector = encryption ▸ again (parameters_as OCTET_STRING.format) ▸ again (octets 0x04 (omega arith) (λ _. Unit {0}))

-- PBKDF2-params ::= SEQUENCE { salt CHOICE { specified OCTET STRING, otherSource AlgorithmIdentifier }, iterationCount
--   INTEGER, keyLength INTEGER OPTIONAL, prf AlgorithmIdentifier DEFAULT algid-hmacWithSHA1 }
abbrev pub pbkdf2 : Route ALGORITHM.format.Reads (fixed (SEQUENCE pbkdf2_head).format.Reads)
pbkdf2 = derivation ▸ again (parameters_as (SEQUENCE pbkdf2_head).format)

-- to the salt where it is specified
abbrev pub specified : Route pbkdf2_salt_source.format.Reads OCTET_STRING.format.Reads
specified = record {
  steps = [];
  IsPart = λ v w. v ≡ inl w;
  found = λ k v w o m x s. (m, x, (refl, refl), subst (λ u. pbkdf2_salt_source.format.Reads k x u) o s);
}

abbrev pub pbkdf2_salt : Route ALGORITHM.format.Reads as_is
pbkdf2_salt =
    pbkdf2
    ▸ again (component 0x30 (omega arith) (pbkdf2_salt_source here INTEGER_BELOW (2 ^ 32) then INTEGER_BELOW (2 ^ 32) OPTIONAL ALGORITHM OPTIONAL end) refl)
    ▸ again specified
    ▸ again (octets 0x04 (omega arith) (λ _. Unit {0}))

abbrev pub KEY_LENGTH : Tagged
KEY_LENGTH = with_tag 0x02 (INTEGER_BELOW (2 ^ 32)) refl

abbrev pub prf : Route ALGORITHM.format.Reads (fixed ALGORITHM.format.Reads)
prf = pbkdf2 ▸ again (component 0x30 (omega arith) (pbkdf2_salt_source before INTEGER_BELOW (2 ^ 32) before KEY_LENGTH maybe ALGORITHM there end) refl)

abbrev pub prf_oid : Route ALGORITHM.format.Reads as_is
prf_oid = prf ▸ again algorithm_oid

-- EncryptedPrivateKeyInfo ::= SEQUENCE { encryptionAlgorithm AlgorithmIdentifier, encryptedData OCTET STRING }
abbrev pub key_algorithm : Route (SEQUENCE encrypted_key_head).format.Reads ALGORITHM.format.Reads
key_algorithm = component 0x30 (omega arith) (ALGORITHM here OCTET_STRING then end) refl

abbrev pub key_encrypted : Route (SEQUENCE encrypted_key_head).format.Reads as_is
key_encrypted = component 0x30 (omega arith) (ALGORITHM before OCTET_STRING here end) refl ▸ octets 0x04 (omega arith) (λ _. Unit {0})

-- ContentInfo ::= SEQUENCE { contentType ContentType, content [0] EXPLICIT EncryptedData }, EncryptedData ::= SEQUENCE {
--   version Version (0), encryptedContentInfo EncryptedContentInfo }
abbrev pub encrypted_content : Route (SEQUENCE encrypted_info_head).format.Reads (SEQUENCE encrypted_content_head).format.Reads
encrypted_content =
    component 0x30 (omega arith) (asn1 (lawful_only_oid encrypted_data_oid) before EXPLICIT 0 (SEQUENCE encrypted_data_head) here end) refl
    ▸ enclosed 0xA0 (omega arith) (SEQUENCE encrypted_data_head).format
    ▸ component 0x30 (omega arith) (VERSION 0 refl before SEQUENCE encrypted_content_head here end) refl

-- EncryptedContentInfo ::= SEQUENCE { contentType ContentType, contentEncryptionAlgorithm AlgorithmIdentifier,
--   encryptedContent [0] IMPLICIT OCTET STRING OPTIONAL }
abbrev pub contents_algorithm : Route (SEQUENCE encrypted_info_head).format.Reads ALGORITHM.format.Reads
contents_algorithm = encrypted_content ▸ component 0x30 (omega arith) (OBJECT_IDENTIFIER before ALGORITHM here IMPLICIT 0 OCTET_STRING OPTIONAL end) refl

abbrev pub contents_encrypted : Route (SEQUENCE encrypted_info_head).format.Reads as_is
contents_encrypted =
    encrypted_content
    ▸ component 0x30 (omega arith) (OBJECT_IDENTIFIER before ALGORITHM before IMPLICIT 0 OCTET_STRING there end) refl
    ▸ under 0x80 0x04 (omega arith) OCTET_STRING.format (octets 0x04 (omega arith) (λ _. Unit {0})) [] refl
