-- What the call from C says, by its status, of how an input is encrypted with a password.
use Rattle.std.specs.Prelude.{◌≡◌, ◌≢◌, ◌≤◌, ℕ, List, Option, None, Some}
use Rattle.std.specs.declared.ops.Range.{Range}
use Rattle.call_values.specs.Ranges.{is_there, nothing, octets_of, octets_or_none}
use Rattle.call_values.specs.Statuses.{IsPlace, Reasons, SaysWhy}
use Rattle.password_calls.specs.declared.passwords.Holder.{Holder}
use Rattle.password_calls.specs.declared.passwords.Holder.TheVariants.{Algorithm, Key, Contents}
use Rattle.password_calls.specs.declared.passwords.Password.{Password}
use Rattle.call_values.specs.declared.status.TheConstants.{NORMAL, LOOSE, NO_ROOM, NO_PART}
use Rattle.input_ranges.specs.declared.ranges.Refusal.{Refusal}
use Rattle.password_ranges.specs.Heads.{ALGORITHM, encrypted_info_head, encrypted_key_head}
use Rattle.password_ranges.specs.Holders.{AreContentsRanges, AreKeyRanges, AreRangesOf, IsRefusal, encrypted_info, encrypted_key}
use Rattle.password_ranges.specs.Parameters.{AlgorithmValue}
use Rattle.password_ranges.specs.declared.ranges.EncryptedRanges.{EncryptedRanges}
use Rattle.password_ranges.specs.declared.ranges.PasswordRanges.{PasswordRanges}
use Rattle.password_ranges.specs.declared.ranges.Pbes2Ranges.{Pbes2Ranges}
use Rattle.password_ranges.specs.declared.ranges.Pbkdf2Ranges.{Pbkdf2Ranges}
use Rattle.password_ranges.specs.declared.ranges.SaltRanges.{SaltRanges}

-- all 0
abbrev pub no_password : Password
no_password = record {
  has_parameters = 0;
  is_pbes1 = 0;
  is_pkcs12 = 0;
  is_pbes2 = 0;
  has_derivation_parameters = 0;
  is_pbkdf2 = 0;
  has_salt = 0;
  has_key_length = 0;
  has_prf = 0;
  has_encryption_parameters = 0;
  has_initialization_vector = 0;
  has_encrypted = 0;
  iterations = 0;
  key_length = 0;
  algorithm = nothing;
  parameters = nothing;
  derivation = nothing;
  derivation_parameters = nothing;
  salt = nothing;
  prf = nothing;
  encryption = nothing;
  encryption_parameters = nothing;
  initialization_vector = nothing;
  encrypted = nothing;
}

abbrev pub number_or_none : Option ℕ → ℕ
number_or_none None = 0
number_or_none (Some n) = n

-- a row with the parameters of PBES1
abbrev pub with_pbes1 : Option SaltRanges → Password → Password
with_pbes1 None row = row
with_pbes1 (Some p) row = record row { is_pbes1 = 1; has_salt = 1; iterations = p.iterations; salt = octets_of p.salt }

-- with those of one of pkcs-12PbeIds
abbrev pub with_pkcs12 : Option SaltRanges → Password → Password
with_pkcs12 None row = row
with_pkcs12 (Some p) row = record row { is_pkcs12 = 1; has_salt = 1; iterations = p.iterations; salt = octets_of p.salt }

-- with the parameters of PBKDF2
abbrev pub with_pbkdf2 : Option Pbkdf2Ranges → Password → Password
with_pbkdf2 None row = row
with_pbkdf2 (Some p) row = record row {
  is_pbkdf2 = 1;
  has_salt = is_there p.salt;
  has_key_length = is_there p.key_length;
  has_prf = is_there p.prf;
  iterations = p.iterations;
  key_length = number_or_none p.key_length;
  salt = octets_or_none p.salt;
  prf = octets_or_none p.prf;
}

-- with those of PBES2
abbrev pub with_pbes2 : Option Pbes2Ranges → Password → Password
with_pbes2 None row = row
with_pbes2 (Some p) row = with_pbkdf2 p.pbkdf2
    (record row {
      is_pbes2 = 1;
      has_derivation_parameters = is_there p.derivation_parameters;
      has_encryption_parameters = is_there p.encryption_parameters;
      has_initialization_vector = is_there p.initialization_vector;
      derivation = octets_of p.derivation;
      derivation_parameters = octets_or_none p.derivation_parameters;
      encryption = octets_of p.encryption;
      encryption_parameters = octets_or_none p.encryption_parameters;
      initialization_vector = octets_or_none p.initialization_vector;
    })

-- the ranges of an algorithm, and those of what is encrypted
abbrev pub password_row : PasswordRanges → Option (Range ℕ) → Password
password_row r encrypted = with_pbes2 r.pbes2
    (with_pkcs12 r.pkcs12
    (with_pbes1 r.pbes1
    (record no_password {
      has_parameters = is_there r.parameters;
      has_encrypted = is_there encrypted;
      algorithm = octets_of r.algorithm;
      parameters = octets_or_none r.parameters;
      encrypted = octets_or_none encrypted;
    })))

-- DER_HOLDER_ALGORITHM, DER_HOLDER_KEY, DER_HOLDER_CONTENTS
abbrev pub number_of : Holder → ℕ
number_of Algorithm = 0
number_of Key = 1
number_of Contents = 2

-- the row is that of the parts in the input b
abbrev pub HasParts : Holder → List ℕ → Password → Type 0
HasParts Algorithm b row = (r : PasswordRanges) × AreRangesOf b r × (row ≡ password_row r None)
HasParts Key b row = (r : EncryptedRanges) × AreKeyRanges b r × (row ≡ password_row r.algorithm r.encrypted)
HasParts Contents b row = (r : EncryptedRanges) × AreContentsRanges b r × (row ≡ password_row r.algorithm r.encrypted)

-- the input isn't what holds the algorithm
abbrev pub HoldsNone : Holder → List ℕ → Type 0
HoldsNone Algorithm b = (v : AlgorithmValue) → ALGORITHM.format.Reads 64 b v → ⊥
HoldsNone Key b = (v : encrypted_key_head.Value) → encrypted_key.Reads 64 b v → ⊥
HoldsNone Contents b = (v : encrypted_info_head.Value) → encrypted_info.Reads 64 b v → ⊥

-- why no ranges are found in it
abbrev pub IsHolderRefusal : Holder → List ℕ → Refusal → Type 0
IsHolderRefusal Algorithm = IsRefusal ALGORITHM.format
IsHolderRefusal Key = IsRefusal encrypted_key
IsHolderRefusal Contents = IsRefusal encrypted_info

-- no holder has that number, or the input isn't what the one with it is
abbrev pub without_parameters : ℕ → List ℕ → Reasons
without_parameters number b = record {
  IsUnknown = (holder : Holder) → number ≢ number_of holder;
  HasNone = (holder : Holder) × (number ≡ number_of holder) × HoldsNone holder b;
  IsLong = ⊥;
  TakesMemory = Unit {0};
  LacksRange = ⊥;
  IsAbsent = ⊥;
}

-- what der_password_parameters answers of the input b, which is what the holder with that number is
pub record FindsParameters (number : ℕ) (b : List ℕ) (new : Password) (place status : ℕ) : Type 0 where
  -- DER_NORMAL: these are the ranges and numbers of its parts
  pub found : status ≡ NORMAL → (holder : Holder) × (number ≡ number_of holder) × HasParts holder b new
  pub why : SaysWhy (without_parameters number b) status
  pub none : status ≢ NORMAL → new ≡ no_password
  pub at : IsPlace b place status
  pub range : (status ≢ LOOSE) × ((status ≢ NO_ROOM) × (status ≤ NO_PART))
