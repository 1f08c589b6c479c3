-- Which of the parts that a row gives can't be written, by its number, a der_password_part.
use Rattle.std.specs.Prelude.{◌≡◌, ◌≢◌, ◌⊎◌, ℕ, List, Some}
use Rattle.asn1_choices.specs.Tables.{Table}
use Rattle.call_values.specs.Given.{HasNone, IfGiven, IsNumberOf, IsOidOf, IsPartOf}
use Rattle.password_calls.specs.Others.{IsWrongOther}
use Rattle.password_calls.specs.declared.built.Scheme.{Scheme}
use Rattle.password_calls.specs.declared.built.Scheme.TheVariants.{Pbes1, Pkcs12, Pbes2, Other}
use Rattle.password_calls.specs.declared.built.TheConstants.{ALGORITHM, PARAMETERS, DERIVATION, DERIVATION_PARAMETERS, SALT, PRF, ENCRYPTION, ENCRYPTION_PARAMETERS, INITIALIZATION_VECTOR, ENCRYPTED, ITERATIONS, KEY_LENGTH, SCHEME}
use Rattle.password_calls.specs.declared.passwords.Holder.{Holder}
use Rattle.password_calls.specs.declared.passwords.Holder.TheVariants as Holders
use Rattle.password_calls.specs.declared.passwords.Password.{Password}
use Rattle.password_ranges.specs.SaltKinds.{pbes1_table, pkcs12_table}

-- what the flags say that the algorithm is: at most one of them isn't 0
abbrev pub IsScheme : Password → Scheme → Type 0
IsScheme row Pbes1 = (row.is_pbes1 ≢ 0) × (row.is_pkcs12 ≡ 0) × (row.is_pbes2 ≡ 0)
IsScheme row Pkcs12 = (row.is_pbes1 ≡ 0) × (row.is_pkcs12 ≢ 0) × (row.is_pbes2 ≡ 0)
IsScheme row Pbes2 = (row.is_pbes1 ≡ 0) × (row.is_pkcs12 ≡ 0) × (row.is_pbes2 ≢ 0)
IsScheme row Other = (row.is_pbes1 ≡ 0) × (row.is_pkcs12 ≡ 0) × (row.is_pbes2 ≡ 0)

-- the object identifier of an algorithm of that table
abbrev pub IsIn : {K : Type 0} → Table K → List ℕ → Type 0
IsIn {K} T x = (kind : K) × (T.oid_of kind ≡ x)

-- of an algorithm of that table, with a salt and a count
pub data IsWrongSalted {K : Type 0} (T : Table K) (b : List ℕ) (row : Password) : ℕ → Type 0 where
  salted_algorithm : HasNone (λ x. IsOidOf b row.algorithm x × IsIn T x) → IsWrongSalted T b row ALGORITHM
  salted_no_salt : row.has_salt ≡ 0 → IsWrongSalted T b row SALT
  salted_salt : HasNone (IsPartOf b row.salt) → IsWrongSalted T b row SALT
  salted_iterations : HasNone (IsNumberOf row.iterations) → IsWrongSalted T b row ITERATIONS

-- of the parameters of PBKDF2
pub data IsWrongPbkdf2 (b : List ℕ) (row : Password) : ℕ → Type 0 where
  pbkdf2_salt : HasNone (IsPartOf b row.salt) → IsWrongPbkdf2 b row SALT
  pbkdf2_iterations : HasNone (IsNumberOf row.iterations) → IsWrongPbkdf2 b row ITERATIONS
  pbkdf2_key_length : HasNone (IfGiven row.has_key_length (IsNumberOf row.key_length)) → IsWrongPbkdf2 b row KEY_LENGTH
  pbkdf2_prf : HasNone (IfGiven row.has_prf (IsOidOf b row.prf)) → IsWrongPbkdf2 b row PRF

-- the function that derives the key is given by its object identifier, and not as PBKDF2 with a salt
abbrev pub IsByIdentifier : Password → Type 0
IsByIdentifier row = (row.is_pbkdf2 ≡ 0) ⊎ ((row.has_salt ≡ 0) × (row.has_derivation_parameters ≢ 0))

-- of the function that derives the key
pub data IsWrongDerivation (b : List ℕ) (row : Password) : ℕ → Type 0 where
  derivation_pbkdf2 : (n : ℕ) → row.is_pbkdf2 ≢ 0 → row.has_salt ≢ 0 → IsWrongPbkdf2 b row n → IsWrongDerivation b row n
  derivation_no_salt : row.is_pbkdf2 ≢ 0 → row.has_salt ≡ 0 → row.has_derivation_parameters ≡ 0 → IsWrongDerivation b row SALT
  derivation_other : (n : ℕ) → IsByIdentifier row → IsWrongOther b row.derivation DERIVATION row.has_derivation_parameters row.derivation_parameters DERIVATION_PARAMETERS n → IsWrongDerivation b row n

-- of an encryption scheme with an initialization vector
pub data IsWrongVector (b : List ℕ) (row : Password) : ℕ → Type 0 where
  vector_algorithm : HasNone (IsOidOf b row.encryption) → IsWrongVector b row ENCRYPTION
  vector_itself : HasNone (IsPartOf b row.initialization_vector) → IsWrongVector b row INITIALIZATION_VECTOR

-- of an encryption scheme
pub data IsWrongEncryption (b : List ℕ) (row : Password) : ℕ → Type 0 where
  encryption_vector : (n : ℕ) → row.has_initialization_vector ≢ 0 → IsWrongVector b row n → IsWrongEncryption b row n
  encryption_other : (n : ℕ) → row.has_initialization_vector ≡ 0 → IsWrongOther b row.encryption ENCRYPTION row.has_encryption_parameters row.encryption_parameters ENCRYPTION_PARAMETERS n → IsWrongEncryption b row n

-- of PBES2
abbrev pub IsWrongPbes2 : List ℕ → Password → ℕ → Type 0
IsWrongPbes2 b row n = IsWrongDerivation b row n ⊎ IsWrongEncryption b row n

-- of an algorithm
pub data IsWrongAlgorithm (b : List ℕ) (row : Password) : ℕ → Type 0 where
  algorithm_pbes1 : (n : ℕ) → IsScheme row Pbes1 → IsWrongSalted pbes1_table b row n → IsWrongAlgorithm b row n
  algorithm_pkcs12 : (n : ℕ) → IsScheme row Pkcs12 → IsWrongSalted pkcs12_table b row n → IsWrongAlgorithm b row n
  algorithm_pbes2 : (n : ℕ) → IsScheme row Pbes2 → IsWrongPbes2 b row n → IsWrongAlgorithm b row n
  algorithm_other : (n : ℕ) → IsScheme row Other → IsWrongOther b row.algorithm ALGORITHM row.has_parameters row.parameters PARAMETERS n → IsWrongAlgorithm b row n
  algorithm_scheme : HasNone (IsScheme row) → IsWrongAlgorithm b row SCHEME

-- of what holds it: what is encrypted of a key has to be there
abbrev pub IsWrongPart : Holder → List ℕ → Password → ℕ → Type 0
IsWrongPart Holders.Algorithm b row n = IsWrongAlgorithm b row n
IsWrongPart Holders.Key b row n = IsWrongAlgorithm b row n ⊎ ((n ≡ ENCRYPTED) × HasNone (λ x. IfGiven row.has_encrypted (IsPartOf b row.encrypted) (Some x)))
IsWrongPart Holders.Contents b row n = IsWrongAlgorithm b row n ⊎ ((n ≡ ENCRYPTED) × HasNone (IfGiven row.has_encrypted (IsPartOf b row.encrypted)))
