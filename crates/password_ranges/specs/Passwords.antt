-- Where an algorithm that encrypts with a password has its parts.
use Rattle.std.specs.Prelude.{◌≡◌, ◌⊎◌, ℕ, List, Option, None, Some}
use Rattle.std.specs.declared.ops.Range.{Range}
use Rattle.std.proofs.Common.{inl, inr}
use Rattle.asn1_core.specs.Asn1.{OCTET_STRING, SEQUENCE}
use Rattle.asn1_core.specs.Der.{Octets, OidOctets, option_value}
use Rattle.asn1_located.specs.Places.{Reading, Route}
use Rattle.asn1_located.specs.Routes.{◌▸◌}
use Rattle.located_rows.specs.Rows.{IsRangeOf, LeadsTo}
use Rattle.password_ranges.specs.Heads.{ALGORITHM, pbes2_head, pbkdf2_head}
use Rattle.password_ranges.specs.Parameters.{AlgorithmValue, AreKnown, AreKnownOrNone, AreOfKindOrNone, AreParametersOrNone, oid_in, parameters_in}
use Rattle.password_ranges.specs.PasswordRoutes.{algorithm_oid, derivation_oid, derivation_parameters, encryption_oid, encryption_parameters, only_salt, parameters, pbkdf2_salt, prf_oid, vector}
use Rattle.password_ranges.specs.SaltKinds.{pbes1_table, pkcs12_table}
use Rattle.password_ranges.specs.declared.ranges.PasswordRanges.{PasswordRanges}
use Rattle.password_ranges.specs.declared.ranges.SaltRanges.{SaltRanges}
use Rattle.password_ranges.specs.declared.ranges.Pbes2Ranges.{Pbes2Ranges}
use Rattle.password_ranges.specs.declared.ranges.Pbkdf2Ranges.{Pbkdf2Ranges}
use Rattle.pkcs12_algs.specs.Oids.{pbes2_oid, pbkdf2_oid}
use Rattle.pkcs12_algs.specs.Pbes1.{pbes1_params}

-- What is said of a part x of an algorithm identifier and of a range, by the way to the part.
abbrev pub At : Type 1
At = (X : Type 0) (S : Reading X) → Route ALGORITHM.format.Reads S → X → Range ℕ → Type 0

-- the range is that of the part in the input b, in its own place: the way to the algorithm goes on to the part
abbrev pub in_place : {V : Type 0} {R : Reading V} → Route R ALGORITHM.format.Reads → List ℕ → V → At
in_place holder b v = λ X S route x r. IsRangeOf (holder ▸ route) 64 b v x r.start r.end

-- or the steps lead to it from octets x, which begin at m
abbrev pub leading : ℕ → List ℕ → At
leading m x = λ X S route y r. LeadsTo route.steps m x r.start r.end

-- both are there, and P holds of them, or neither is there
abbrev pub OrNone : {X R : Type 0} → (X → R → Type 0) → Option X → Option R → Type 0
OrNone P None None = Unit {0}
OrNone P None (Some r) = ⊥
OrNone P (Some x) None = ⊥
OrNone P (Some x) (Some r) = P x r

-- a salt and a count
pub record AreSaltRanges (at : At) (p : pbes1_params.Value) (r : SaltRanges) : Type 0 where
  pub salt_at : at Octets _ only_salt p.0 r.salt
  pub iterations : r.iterations ≡ p.1.0

-- the salt, where it is specified
abbrev pub specified_in : Octets ⊎ AlgorithmValue → Option Octets
specified_in (inl salt) = Some salt
specified_in (inr other) = None

-- the object identifier of a PRF that there is
abbrev pub prf_in : Option AlgorithmValue → Option OidOctets
prf_in = option_value oid_in

-- PBKDF2-params
pub record ArePbkdf2Ranges (at : At) (p : pbkdf2_head.Value) (r : Pbkdf2Ranges) : Type 0 where
  pub salt_at : OrNone (at Octets _ pbkdf2_salt) (specified_in p.0) r.salt
  pub iterations : r.iterations ≡ p.1.0
  pub key_length : r.key_length ≡ p.1.1.0
  pub prf_at : OrNone (at OidOctets _ prf_oid) (prf_in p.1.1.1.0) r.prf

-- what the parameters of PBES2 are read as: in them, those of PBKDF2, and the initialization vector
pub record Pbes2Value : Type 0 where
  pub params : pbes2_head.Value
  pub pbkdf2 : Option pbkdf2_head.Value
  pub vector : Option Octets

abbrev pub derivation_in : Pbes2Value → AlgorithmValue
derivation_in s = s.params.0

abbrev pub encryption_in : Pbes2Value → AlgorithmValue
encryption_in s = s.params.1.0

-- the algorithm is PBES2, and its parameters read so
pub record IsPbes2 (w : AlgorithmValue) (s : Pbes2Value) : Type 0 where
  pub are_params : AreKnown pbes2_oid (SEQUENCE pbes2_head).format w s.params
  pub is_pbkdf2 : AreKnownOrNone pbkdf2_oid (SEQUENCE pbkdf2_head).format (derivation_in s) s.pbkdf2
  pub is_vector : AreParametersOrNone OCTET_STRING.format (encryption_in s) s.vector

abbrev pub IsPbes2OrNone : AlgorithmValue → Option Pbes2Value → Type 0
IsPbes2OrNone w None = (p : pbes2_head.Value) → AreKnown pbes2_oid (SEQUENCE pbes2_head).format w p → ⊥
IsPbes2OrNone w (Some s) = IsPbes2 w s

-- PBES2-params
pub record ArePbes2Ranges (at : At) (s : Pbes2Value) (r : Pbes2Ranges) : Type 0 where
  pub derivation_at : at OidOctets _ derivation_oid (oid_in (derivation_in s)) r.derivation
  pub derivation_parameters_at : OrNone (at _ _ derivation_parameters) (parameters_in (derivation_in s)) r.derivation_parameters
  pub pbkdf2_at : OrNone (ArePbkdf2Ranges at) s.pbkdf2 r.pbkdf2
  pub encryption_at : at OidOctets _ encryption_oid (oid_in (encryption_in s)) r.encryption
  pub encryption_parameters_at : OrNone (at _ _ encryption_parameters) (parameters_in (encryption_in s)) r.encryption_parameters
  pub vector_at : OrNone (at Octets _ vector) s.vector r.initialization_vector

-- all of the algorithm w
pub record ArePasswordRanges (at : At) (w : AlgorithmValue) (r : PasswordRanges) : Type 0 where
  pub algorithm_at : at OidOctets _ algorithm_oid (oid_in w) r.algorithm
  pub parameters_at : OrNone (at _ _ parameters) (parameters_in w) r.parameters
  pub pbes1 : Option pbes1_params.Value
  pub is_pbes1 : AreOfKindOrNone pbes1_table (SEQUENCE pbes1_params).format w pbes1
  pub pbes1_at : OrNone (AreSaltRanges at) pbes1 r.pbes1
  pub pkcs12 : Option pbes1_params.Value
  pub is_pkcs12 : AreOfKindOrNone pkcs12_table (SEQUENCE pbes1_params).format w pkcs12
  pub pkcs12_at : OrNone (AreSaltRanges at) pkcs12 r.pkcs12
  pub pbes2 : Option Pbes2Value
  pub is_pbes2 : IsPbes2OrNone w pbes2
  pub pbes2_at : OrNone (ArePbes2Ranges at) pbes2 r.pbes2
