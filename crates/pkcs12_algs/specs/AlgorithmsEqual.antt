-- `==` of algorithms is equality of what the values contain.
use Rattle.asn1_core.specs.Der.{SeesEqual, der_equal, two_equal, same_first, same_second}
use Rattle.std.specs.Prelude.{true, ◌≡◌, ◌⊎◌, ◌↔◌, ℕ, Bool, List}
use Rattle.std.proofs.Common.{ap, inl, inr, rules}
use Rattle.std.proofs.lemmas.Bool.Decides.{Decides-eqb}
use Rattle.x509_base.specs.Algorithms.{algorithm_identifier}
use Rattle.x509_base.specs.AlgorithmParts.{raw_algorithm_identifier_equal}
use Rattle.pkcs12_algs.specs.Algorithms.{ListedOrRaw}
use Rattle.pkcs12_algs.specs.Digests.{digest_oids, pkcs12_digest_algorithm_value, pkcs12_digest_info_value, mac_data_value}
use Rattle.pkcs12_algs.specs.Pbkdf2.{prf_oids, pbkdf2_prf_value, pbkdf2_salt_source_value, pbkdf2_params_value}
use Rattle.pkcs12_algs.specs.Pbes2.{pbes2_key_derivation_func_value, pbes2_encryption_scheme_value, pbes2_params_value}
use Rattle.pkcs12_algs.specs.laws.TableLaws.{one_listed}
use Rattle.pkcs12_algs.specs.contracts.digests.Pkcs12DigestAlgorithmPartialEq.TheImpl as Digest
use Rattle.pkcs12_algs.specs.contracts.digests.Pkcs12DigestInfoPartialEq.TheImpl as DigestInfo
use Rattle.pkcs12_algs.specs.contracts.macs.MacDataPartialEq.TheImpl as Mac
use Rattle.pkcs12_algs.specs.contracts.prfs.Pbkdf2PrfPartialEq.TheImpl as Prf
use Rattle.pkcs12_algs.specs.contracts.pbkdf2.Pbkdf2SaltSourcePartialEq.TheImpl as Salt
use Rattle.pkcs12_algs.specs.contracts.pbkdf2.Pbkdf2ParamsPartialEq.TheImpl as Pbkdf2
use Rattle.pkcs12_algs.specs.contracts.pbes2.Pbes2KeyDerivationFuncPartialEq.TheImpl as Kdf
use Rattle.pkcs12_algs.specs.contracts.pbes2.Pbes2EncryptionSchemePartialEq.TheImpl as Scheme
use Rattle.pkcs12_algs.specs.contracts.pbes2.Pbes2ParamsPartialEq.TheImpl as Pbes2
use Rattle.pkcs12_algs.specs.declared.pbes2.Pbes2KeyDerivationFunc.TheVariants.{Pbkdf2 as ByPbkdf2, Unknown}
use Rattle.pkcs12_algs.specs.Encryption.{pkcs12_encryption_algorithm_value}
use Rattle.pkcs12_algs.specs.Pbes1.{pbes1_params_value}
use Rattle.pkcs12_algs.specs.contracts.encryptions.Pkcs12EncryptionAlgorithmPartialEq.TheImpl as Algorithm
use Rattle.pkcs12_algs.specs.contracts.pbes1.Pbes1AlgorithmKindPartialEq.TheImpl as Kind
use Rattle.pkcs12_algs.specs.contracts.pbes1.Pbes1ParamsPartialEq.TheImpl as Params
use Rattle.pkcs12_algs.specs.declared.encryptions.Pkcs12EncryptionAlgorithm.TheVariants.{Pbes1, Pbes2, Unknown}

-- a known object identifier without the proof that it is known
plain : (oids : List (List ℕ)) → ListedOrRaw oids → List ℕ ⊎ algorithm_identifier.Value
plain oids (inl a) = inl a.0
plain oids (inr v) = inr v

plain_same : (oids : List (List ℕ)) (x y : ListedOrRaw oids) → plain oids x ≡ plain oids y → x ≡ y
unfolding plain
plain_same oids (inl a) (inl b) e = let h : a.0 ≡ b.0 = cc in ap inl (one_listed oids a b h)
plain_same oids (inl a) (inr w) e = cc
plain_same oids (inr v) (inl b) e = cc
plain_same oids (inr v) (inr w) e = let h : v ≡ w = cc in ap inr h

same_plain : (oids : List (List ℕ)) {x y : ListedOrRaw oids} {p : Bool} → (p ≡ true) ↔ (plain oids x ≡ plain oids y) → (p ≡ true) ↔ (x ≡ y)
same_plain oids {x} {y} f = (λ e. plain_same oids x y (f.0 e), λ e. f.1 (ap (plain oids) e))

digest_plain : SeesEqual Digest.ghosts.eq (λ x. plain digest_oids (pkcs12_digest_algorithm_value x))
unfolding plain
digest_plain x y = search rules

pub pkcs12_digest_algorithm_equal : SeesEqual Digest.ghosts.eq pkcs12_digest_algorithm_value
pkcs12_digest_algorithm_equal x y = same_plain digest_oids (digest_plain x y)

pub pkcs12_digest_info_equal : SeesEqual DigestInfo.ghosts.eq pkcs12_digest_info_value
pkcs12_digest_info_equal x y = search (der_equal, pkcs12_digest_algorithm_equal) depth 20

pub mac_data_equal : SeesEqual Mac.ghosts.eq mac_data_value
mac_data_equal x y = search (der_equal, pkcs12_digest_info_equal, Decides-eqb) depth 20

prf_plain : SeesEqual Prf.ghosts.eq (λ x. plain prf_oids (pbkdf2_prf_value x))
unfolding plain
prf_plain x y = search rules

pub pbkdf2_prf_equal : SeesEqual Prf.ghosts.eq pbkdf2_prf_value
pbkdf2_prf_equal x y = same_plain prf_oids (prf_plain x y)

pbkdf2_salt_source_equal : SeesEqual Salt.ghosts.eq pbkdf2_salt_source_value
pbkdf2_salt_source_equal = search rules

pub pbkdf2_params_equal : SeesEqual Pbkdf2.ghosts.eq pbkdf2_params_value
pbkdf2_params_equal x y = search (der_equal, pbkdf2_salt_source_equal, pbkdf2_prf_equal, Decides-eqb) depth 20

pub pbes2_key_derivation_func_equal : SeesEqual Kdf.ghosts.eq pbes2_key_derivation_func_value
pbes2_key_derivation_func_equal (ByPbkdf2 x) (ByPbkdf2 y) = same_first (pbkdf2_params_equal x y)
pbes2_key_derivation_func_equal (ByPbkdf2 x) (Unknown y) = (λ e. cc, λ e. cc)
pbes2_key_derivation_func_equal (Unknown x) (ByPbkdf2 y) = (λ e. cc, λ e. cc)
pbes2_key_derivation_func_equal (Unknown x) (Unknown y) = same_second (raw_algorithm_identifier_equal x y)

pbes2_encryption_scheme_equal : SeesEqual Scheme.ghosts.eq pbes2_encryption_scheme_value
pbes2_encryption_scheme_equal = search rules

pub pbes2_params_equal : SeesEqual Pbes2.ghosts.eq pbes2_params_value
pbes2_params_equal x y = search (der_equal, pbes2_key_derivation_func_equal, pbes2_encryption_scheme_equal) depth 20

kind_equal : SeesEqual Kind.ghosts.eq (λ x. x)
kind_equal = search rules

pbes1_params_equal : SeesEqual Params.ghosts.eq pbes1_params_value
pbes1_params_equal = search rules

pub pkcs12_encryption_algorithm_equal : SeesEqual Algorithm.ghosts.eq pkcs12_encryption_algorithm_value
pkcs12_encryption_algorithm_equal (Pbes1 j x) (Pbes1 k y) = same_second (same_first (two_equal (kind_equal j k) (pbes1_params_equal x y)))
pkcs12_encryption_algorithm_equal (Pbes1 j x) (Pbes2 y) = (λ e. cc, λ e. cc)
pkcs12_encryption_algorithm_equal (Pbes1 j x) (Unknown y) = (λ e. cc, λ e. cc)
pkcs12_encryption_algorithm_equal (Pbes2 x) (Pbes1 k y) = (λ e. cc, λ e. cc)
pkcs12_encryption_algorithm_equal (Pbes2 x) (Pbes2 y) = same_first (pbes2_params_equal x y)
pkcs12_encryption_algorithm_equal (Pbes2 x) (Unknown y) = (λ e. cc, λ e. cc)
pkcs12_encryption_algorithm_equal (Unknown x) (Pbes1 k y) = (λ e. cc, λ e. cc)
pkcs12_encryption_algorithm_equal (Unknown x) (Pbes2 y) = (λ e. cc, λ e. cc)
pkcs12_encryption_algorithm_equal (Unknown x) (Unknown y) = same_second (same_second (raw_algorithm_identifier_equal x y))
