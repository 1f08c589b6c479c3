-- Keys from passwords by PBKDF2 (RFC 8018, 5.2 and appendix A.2).
--
-- PBKDF2-params ::= SEQUENCE {
--     salt CHOICE { specified OCTET STRING, otherSource AlgorithmIdentifier {{PBKDF2-SaltSources}} },
--     iterationCount INTEGER (1..MAX),
--     keyLength INTEGER (1..MAX) OPTIONAL,
--     prf AlgorithmIdentifier {{PBKDF2-PRFs}} DEFAULT algid-hmacWithSHA1 }
--
-- Counts and lengths from 0 to 2^32 - 1 are read. An absent PRF and an explicit HMAC with SHA-1 are told apart.
use Rattle.std.specs.Prelude.{◌^◌, ℕ, List, [], ◌∷◌, map}
use Rattle.asn1_core.specs.Asn1.{Asn1, Contents, contents, ◌then◌, ◌OPTIONAL◌, end, CHOICE, OCTET_STRING, INTEGER_BELOW, SEQUENCE}
use Rattle.asn1_core.specs.Der.{option_value}
use Rattle.std.proofs.Common.{inl, inr, refl}
use Rattle.x509_base.specs.AlgorithmParts.{raw_algorithm_identifier_value}
use Rattle.x509_base.specs.OtherAlgorithms.{raw_algorithm_identifier}
use Rattle.pkcs12_algs.specs.Algorithms.{listed_or_raw, from_oid}
use Rattle.pkcs12_algs.specs.Oids.{hmac_with_sha1_oid, hmac_with_sha224_oid, hmac_with_sha256_oid, hmac_with_sha384_oid, hmac_with_sha512_oid}
use Rattle.pkcs12_algs.specs.declared.pbkdf2.Pbkdf2Params.{Pbkdf2Params}
use Rattle.pkcs12_algs.specs.declared.pbkdf2.Pbkdf2SaltSource.{Pbkdf2SaltSource}
use Rattle.pkcs12_algs.specs.declared.pbkdf2.Pbkdf2SaltSource.TheVariants.{Specified, OtherSource}
use Rattle.pkcs12_algs.specs.declared.prfs.Pbkdf2Prf.{Pbkdf2Prf}
use Rattle.pkcs12_algs.specs.declared.prfs.Pbkdf2Prf.TheVariants.{HmacWithSha1, HmacWithSha224, HmacWithSha256, HmacWithSha384, HmacWithSha512, Unknown}

-- id-hmacWithSHA1 and its kin (RFC 8018, appendix B.1)
abbrev pub prf_oid : Pbkdf2Prf → List ℕ
prf_oid HmacWithSha1 = hmac_with_sha1_oid
prf_oid HmacWithSha224 = hmac_with_sha224_oid
prf_oid HmacWithSha256 = hmac_with_sha256_oid
prf_oid HmacWithSha384 = hmac_with_sha384_oid
prf_oid HmacWithSha512 = hmac_with_sha512_oid
prf_oid (Unknown a) = (raw_algorithm_identifier_value a).0

abbrev pub prf_oids : List (List ℕ)
prf_oids = map prf_oid (HmacWithSha1 ∷ HmacWithSha224 ∷ HmacWithSha256 ∷ HmacWithSha384 ∷ HmacWithSha512 ∷ [])

abbrev pub pbkdf2_prf : Contents
pbkdf2_prf = listed_or_raw prf_oids

abbrev pub pbkdf2_prf_value : Pbkdf2Prf → pbkdf2_prf.Value
pbkdf2_prf_value (Unknown a) = inr (raw_algorithm_identifier_value a)
pbkdf2_prf_value known = from_oid prf_oids (prf_oid known)

-- the salt, or where it comes from
abbrev pub pbkdf2_salt_source : Asn1
pbkdf2_salt_source = CHOICE OCTET_STRING (SEQUENCE raw_algorithm_identifier) refl

abbrev pub pbkdf2_salt_source_value : Pbkdf2SaltSource → pbkdf2_salt_source.Value
pbkdf2_salt_source_value (Specified s) = inl s.0.items
pbkdf2_salt_source_value (OtherSource a) = inr (raw_algorithm_identifier_value a)

-- the salt, the iteration count, the key length, and the PRF
abbrev pub pbkdf2_params : Contents
pbkdf2_params =
    contents (pbkdf2_salt_source then INTEGER_BELOW (2 ^ 32) then INTEGER_BELOW (2 ^ 32) OPTIONAL SEQUENCE pbkdf2_prf OPTIONAL end) refl

abbrev pub pbkdf2_params_value : Pbkdf2Params → pbkdf2_params.Value
pbkdf2_params_value x =
    (pbkdf2_salt_source_value x.salt, (x.iteration_count, (option_value (λ n. n) x.key_length, (option_value pbkdf2_prf_value x.prf, tt))))
