-- Digests, and MACs with what they were made from.
--
-- DigestAlgorithmIdentifier ::= AlgorithmIdentifier (RFC 2315, 6.3)
-- DigestInfo ::= SEQUENCE { digestAlgorithm DigestAlgorithmIdentifier, digest Digest } (RFC 2315, 9.4)
-- Digest ::= OCTET STRING
-- MacData ::= SEQUENCE { mac DigestInfo, macSalt OCTET STRING, iterations INTEGER DEFAULT 1 } (RFC 7292, 4)
use Rattle.std.specs.Prelude.{◌^◌, ℕ, List, [], ◌∷◌, map}
use Rattle.asn1_core.specs.Asn1.{Contents, contents, ◌then◌, ◌OPTIONAL◌, end, OCTET_STRING, INTEGER_BELOW, SEQUENCE}
use Rattle.asn1_core.specs.Der.{option_value}
use Rattle.std.proofs.Common.{inr, refl}
use Rattle.x509_base.specs.AlgorithmParts.{raw_algorithm_identifier_value}
use Rattle.pkcs12_algs.specs.Algorithms.{listed_or_raw, from_oid}
use Rattle.pkcs12_algs.specs.Oids.{sha1_oid, sha224_oid, sha256_oid, sha384_oid, sha512_oid}
use Rattle.pkcs12_algs.specs.declared.digests.Pkcs12DigestAlgorithm.{Pkcs12DigestAlgorithm}
use Rattle.pkcs12_algs.specs.declared.digests.Pkcs12DigestAlgorithm.TheVariants.{Sha1, Sha224, Sha256, Sha384, Sha512, Unknown}
use Rattle.pkcs12_algs.specs.declared.digests.Pkcs12DigestInfo.{Pkcs12DigestInfo}
use Rattle.pkcs12_algs.specs.declared.macs.MacData.{MacData}

abbrev pub digest_oid : Pkcs12DigestAlgorithm → List ℕ
digest_oid Sha1 = sha1_oid
digest_oid Sha224 = sha224_oid
digest_oid Sha256 = sha256_oid
digest_oid Sha384 = sha384_oid
digest_oid Sha512 = sha512_oid
digest_oid (Unknown a) = (raw_algorithm_identifier_value a).0

abbrev pub digest_oids : List (List ℕ)
digest_oids = map digest_oid (Sha1 ∷ Sha224 ∷ Sha256 ∷ Sha384 ∷ Sha512 ∷ [])

abbrev pub pkcs12_digest_algorithm : Contents
pkcs12_digest_algorithm = listed_or_raw digest_oids

abbrev pub pkcs12_digest_algorithm_value : Pkcs12DigestAlgorithm → pkcs12_digest_algorithm.Value
pkcs12_digest_algorithm_value (Unknown a) = inr (raw_algorithm_identifier_value a)
pkcs12_digest_algorithm_value known = from_oid digest_oids (digest_oid known)

-- the algorithm, and the digest
abbrev pub pkcs12_digest_info : Contents
pkcs12_digest_info = contents (SEQUENCE pkcs12_digest_algorithm then OCTET_STRING then end) refl

abbrev pub pkcs12_digest_info_value : Pkcs12DigestInfo → pkcs12_digest_info.Value
pkcs12_digest_info_value x = (pkcs12_digest_algorithm_value x.digest_algorithm, (x.digest.0.items, tt))

-- the digest, the salt, and the count
abbrev pub mac_data : Contents
mac_data = contents (SEQUENCE pkcs12_digest_info then OCTET_STRING then INTEGER_BELOW (2 ^ 32) OPTIONAL end) refl

abbrev pub mac_data_value : MacData → mac_data.Value
mac_data_value m = (pkcs12_digest_info_value m.mac, (m.salt.0.items, (option_value (λ n. n) m.iterations, tt)))
