-- What the call from C says, by its status, of an algorithm, or what holds one, that it builds from what it is given.
use Rattle.std.specs.Prelude.{◌≡◌, ◌≢◌, ◌⊎◌, ◌≤◌, ◌^◌, ℕ, List, length, Option, Some}
use Rattle.std.proofs.Common.{inl, inr}
use Rattle.asn1_choices.specs.Tables.{Table}
use Rattle.asn1_core.specs.Der.{Octets as OctetList}
use Rattle.call_values.specs.Given.{HasNone, IfGiven, IsNumberOf, IsOidOf, IsPartOf}
use Rattle.password_calls.specs.Others.{IsOtherOf}
use Rattle.password_calls.specs.Passwords.{number_of}
use Rattle.call_values.specs.Statuses.{Reasons, Writes}
use Rattle.password_calls.specs.WrongParts.{IsByIdentifier, IsScheme, IsWrongPart}
use Rattle.password_calls.specs.declared.built.Scheme.TheVariants.{Pbes1, Pkcs12, Pbes2, Other}
use Rattle.password_calls.specs.declared.passwords.Holder.{Holder}
use Rattle.password_calls.specs.declared.passwords.Holder.TheVariants.{Algorithm, Key, Contents}
use Rattle.password_calls.specs.declared.passwords.Password.{Password}
use Rattle.call_values.specs.declared.status.TheConstants.{INVALID, MALFORMED, MISSING, TOO_DEEP}
use Rattle.password_ranges.specs.Heads.{ALGORITHM}
use Rattle.password_ranges.specs.Holders.{encrypted_info, encrypted_key}
use Rattle.password_ranges.specs.SaltKinds.{pbes1_table, pkcs12_table}
use Rattle.password_writers.specs.Given.{DerivationValue, EncryptionValue, GivenValue, WithPbes2Value, algorithm_of, salted_pbkdf2, with_salt, with_vector}
use Rattle.password_writers.specs.Written.{IsWrittenAs, info_of, key_of}
use Rattle.pkcs12_algs.specs.Oids.{pbes2_oid, pbkdf2_oid}
use Rattle.x509_base.specs.Algorithms.{null}
use Rattle.password_ranges.specs.Parameters.{AlgorithmValue}

-- an algorithm of that table, with a salt and a count
pub record IsSaltedOf {K : Type 0} (T : Table K) (b : List ℕ) (row : Password) (v : with_salt.Value) : Type 0 where
  pub algorithm : IsOidOf b row.algorithm v.0
  pub kind : K
  pub is_kind : T.oid_of kind ≡ v.0
  pub has_salt : row.has_salt ≢ 0
  pub salt : IsPartOf b row.salt v.1.0.0
  pub iterations : IsNumberOf row.iterations v.1.0.1.0

-- a PRF, with NULL as its parameters (RFC 8018, appendix B.1)
abbrev pub IsPrfOf : List ℕ → Password → AlgorithmValue → Type 0
IsPrfOf b row w = IsOidOf b row.prf w.0 × (w.1.0 ≡ Some null)

-- the parameters of PBKDF2
pub record IsPbkdf2Of (b : List ℕ) (row : Password) (p : salted_pbkdf2.Value) : Type 0 where
  pub salt : IsPartOf b row.salt p.0
  pub iterations : IsNumberOf row.iterations p.1.0
  pub key_length : IfGiven row.has_key_length (IsNumberOf row.key_length) p.1.1.0
  pub prf : IfGiven row.has_prf (IsPrfOf b row) p.1.1.1.0

-- PBKDF2 with a salt, or a function with its parameters as an element, which PBKDF2 has then
abbrev pub IsDerivationOf : List ℕ → Password → DerivationValue → Type 0
IsDerivationOf b row (inl v) = (row.is_pbkdf2 ≢ 0) × (row.has_salt ≢ 0) × (v.0 ≡ pbkdf2_oid) × IsPbkdf2Of b row v.1.0
IsDerivationOf b row (inr w) = IsByIdentifier row × IsOtherOf b row.derivation row.has_derivation_parameters row.derivation_parameters w

-- an encryption scheme with an initialization vector
abbrev pub IsVectorOf : List ℕ → Password → with_vector.Value → Type 0
IsVectorOf b row v = IsOidOf b row.encryption v.0 × IsPartOf b row.initialization_vector v.1.0

-- one with an initialization vector, or any other
abbrev pub IsEncryptionOf : List ℕ → Password → EncryptionValue → Type 0
IsEncryptionOf b row (inl v) = (row.has_initialization_vector ≢ 0) × IsVectorOf b row v
IsEncryptionOf b row (inr w) = (row.has_initialization_vector ≡ 0) × IsOtherOf b row.encryption row.has_encryption_parameters row.encryption_parameters w

-- PBES2
pub record IsPbes2Of (b : List ℕ) (row : Password) (v : WithPbes2Value) : Type 0 where
  pub algorithm : v.0 ≡ pbes2_oid
  pub derivation : IsDerivationOf b row v.1.0.0
  pub encryption : IsEncryptionOf b row v.1.0.1.0

-- the algorithm that a row gives of the input b
abbrev pub IsAlgorithmOf : List ℕ → Password → GivenValue → Type 0
IsAlgorithmOf b row (inl v) = (IsScheme row Pbes1 × IsSaltedOf pbes1_table b row v) ⊎ (IsScheme row Pkcs12 × IsSaltedOf pkcs12_table b row v)
IsAlgorithmOf b row (inr (inl v)) = IsScheme row Pbes2 × IsPbes2Of b row v
IsAlgorithmOf b row (inr (inr w)) = IsScheme row Other × IsOtherOf b row.algorithm row.has_parameters row.parameters w

-- what is encrypted
abbrev pub IsEncryptedOf : List ℕ → Password → Option OctetList → Type 0
IsEncryptedOf b row = IfGiven row.has_encrypted (IsPartOf b row.encrypted)

-- what a row gives for a holder: an algorithm, and what is encrypted, if there is something
pub record IsGivenFor (b : List ℕ) (row : Password) (g : GivenValue) (encrypted : Option OctetList) : Type 0 where
  pub algorithm : IsAlgorithmOf b row g
  pub encrypted_is : IsEncryptedOf b row encrypted

-- the text is that of what the row gives, and is read as it
abbrev pub HasBuilt : Holder → List ℕ → Password → List ℕ → Type 0
HasBuilt Algorithm b row text = (g : GivenValue) × IsAlgorithmOf b row g × IsWrittenAs ALGORITHM.format (algorithm_of g) g text
HasBuilt Key b row text = (g : GivenValue) × (x : OctetList) × IsGivenFor b row g (Some x) × IsWrittenAs encrypted_key (key_of g x) g text
HasBuilt Contents b row text = (g : GivenValue) × (o : Option OctetList) × IsGivenFor b row g o × IsWrittenAs encrypted_info (info_of g o) g text

-- no such text is given
abbrev pub GivesNone : Holder → List ℕ → Password → Type 0
GivesNone Algorithm b row = HasNone (IsAlgorithmOf b row)
GivesNone Key b row = (g : GivenValue) (x : OctetList) → IsGivenFor b row g (Some x) → ⊥
GivesNone Contents b row = (g : GivenValue) (o : Option OctetList) → IsGivenFor b row g o → ⊥

-- no holder has that number, or the row gives nothing for the one with it
abbrev pub without_text : ℕ → List ℕ → Password → Reasons
without_text number b row = record {
  IsUnknown = (holder : Holder) → number ≢ number_of holder;
  HasNone = (holder : Holder) × (number ≡ number_of holder) × GivesNone holder b row;
  IsLong = (holder : Holder) × (number ≡ number_of holder) × (text : List ℕ) × HasBuilt holder b row text × (2 ^ 64 ≤ length text);
  TakesMemory = Unit {0};
  LacksRange = ⊥;
  IsAbsent = ⊥;
}

-- what der_build_parameters answers
pub record BuildsParameters (number : ℕ) (b : List ℕ) (row : Password) (old new : List ℕ) (written part status : ℕ) : Type 0 where
  pub writes : Writes (λ text. (holder : Holder) × (number ≡ number_of holder) × HasBuilt holder b row text) (without_text number b row) old new written status
  -- the part with that number can't be written
  pub at : status ≡ INVALID → (holder : Holder) × (number ≡ number_of holder) × IsWrongPart holder b row part
  pub no_part : status ≢ INVALID → part ≡ 0
  -- no other refusal
  pub refused : (status ≢ MALFORMED) × (status ≢ MISSING) × (status ≢ TOO_DEEP)
