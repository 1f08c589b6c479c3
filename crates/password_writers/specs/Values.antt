-- What borrowed parts are, as values.
use Rattle.std.specs.Prelude.{Option, Some}
use Rattle.std.proofs.Common.{inl, inr}
use Rattle.asn1_core.specs.Der.{option_value}
use Rattle.password_ranges.specs.Parameters.{AlgorithmValue}
use Rattle.password_writers.specs.Given.{DerivationValue, EncryptionValue, GivenValue, WithPbes2Value, salted_pbkdf2, with_salt, with_vector}
use Rattle.password_writers.specs.declared.algorithms.Algorithm.{Algorithm}
use Rattle.password_writers.specs.declared.algorithms.Algorithm.TheVariants as Whole
use Rattle.password_writers.specs.declared.algorithms.Derivation.{Derivation}
use Rattle.password_writers.specs.declared.algorithms.Derivation.TheVariants as Kdf
use Rattle.password_writers.specs.declared.algorithms.Encryption.{Encryption}
use Rattle.password_writers.specs.declared.algorithms.Encryption.TheVariants as Scheme
use Rattle.password_writers.specs.declared.algorithms.Other.{Other}
use Rattle.password_writers.specs.declared.algorithms.Pbes2.{Pbes2}
use Rattle.password_writers.specs.declared.algorithms.Pbkdf2.{Pbkdf2}
use Rattle.password_writers.specs.declared.algorithms.Salted.{Salted}
use Rattle.password_writers.specs.declared.algorithms.WithVector.{WithVector}
use Rattle.pkcs12_algs.specs.Oids.{pbes2_oid, pbkdf2_oid}
use Rattle.x509_base.specs.Algorithms.{null}

abbrev pub other_value : Other → AlgorithmValue
other_value x = (x.algorithm.now, (option_value (λ p. p.now) x.parameters, tt))

abbrev pub salted_value : Salted → with_salt.Value
salted_value x = (x.algorithm.now, ((x.salt.now, (x.iterations, tt)), tt))

-- the PRF, with NULL as its parameters (RFC 8018, appendix B.1)
abbrev pub prf_value : Pbkdf2 → Option AlgorithmValue
prf_value x = option_value (λ p. (p.now, (Some null, tt))) x.prf

abbrev pub pbkdf2_value : Pbkdf2 → salted_pbkdf2.Value
pbkdf2_value x = (x.salt.now, (x.iterations, (option_value (λ n. n) x.key_length, (prf_value x, tt))))

abbrev pub derivation_value : Derivation → DerivationValue
derivation_value (Kdf.Pbkdf2 x) = inl (pbkdf2_oid, (pbkdf2_value x, tt))
derivation_value (Kdf.Other x) = inr (other_value x)

abbrev pub vector_value : WithVector → with_vector.Value
vector_value x = (x.algorithm.now, (x.vector.now, tt))

abbrev pub encryption_value : Encryption → EncryptionValue
encryption_value (Scheme.WithVector x) = inl (vector_value x)
encryption_value (Scheme.Other x) = inr (other_value x)

abbrev pub pbes2_value : Pbes2 → WithPbes2Value
pbes2_value x = (pbes2_oid, ((derivation_value x.derivation, (encryption_value x.encryption, tt)), tt))

abbrev pub algorithm_value : Algorithm → GivenValue
algorithm_value (Whole.Salted x) = inl (salted_value x)
algorithm_value (Whole.Pbes2 x) = inr (inl (pbes2_value x))
algorithm_value (Whole.Other x) = inr (inr (other_value x))
