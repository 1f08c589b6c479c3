-- What each part that can't be written refuses.
use Rattle.std.specs.Prelude.{◌≡◌, ◌≢◌, ℕ, List, Result, Ok, Err, None, Some, MatchResult}
use Rattle.std.proofs.Common.{ap, inl, inr, subst, sym, ◌∙◌}
use Rattle.asn1_choices.specs.Tables.{IsTable, Table}
use Rattle.call_values.proofs.GivenParts.{same_part}
use Rattle.call_values.specs.Given.{HasNone, IfGiven, IsNumberOf, IsOidOf, IsPartOf}
use Rattle.password_calls.proofs.BuiltParts as Lacks
use Rattle.password_calls.specs.Built.{GivesNone, IsAlgorithmOf, IsDerivationOf, IsEncryptedOf, IsEncryptionOf, IsPbes2Of, IsPbkdf2Of, IsSaltedOf, IsVectorOf}
use Rattle.password_calls.specs.Others.{IsOtherOf, IsWrongOther}
use Rattle.password_calls.specs.WrongParts.{IsByIdentifier, IsScheme, IsWrongAlgorithm, IsWrongDerivation, IsWrongEncryption, IsWrongPart, IsWrongPbes2, IsWrongPbkdf2, IsWrongSalted, IsWrongVector, salted_algorithm, salted_no_salt, salted_salt, salted_iterations, pbkdf2_salt, pbkdf2_iterations, pbkdf2_key_length, pbkdf2_prf, derivation_pbkdf2, derivation_no_salt, derivation_other, vector_algorithm, vector_itself, encryption_vector, encryption_other, algorithm_pbes1, algorithm_pkcs12, algorithm_pbes2, algorithm_other, algorithm_scheme}
use Rattle.password_calls.specs.declared.built.Scheme.TheVariants as Schemes
use Rattle.password_calls.specs.declared.passwords.Holder.TheVariants as Holders
use Rattle.password_calls.specs.declared.passwords.Password.{Password}
use Rattle.password_ranges.specs.SaltKinds.{pbes1_table, pkcs12_table}

module _ (b : List ℕ) (row : Password) where
  module _ {K : Type 0} (T : Table K) where
    pub wrong_oid : (n : ℕ) → (n ≡ 1) × HasNone (IsOidOf b row.algorithm) → IsWrongSalted T b row n × HasNone (IsSaltedOf T b row)
    wrong_oid n e = (subst (IsWrongSalted T b row) (sym e.0) (salted_algorithm (λ x is. e.1 x is.0)), Lacks.no_salted b row T e.1)

    pub wrong_kind : IsTable T → (x : List ℕ) → IsOidOf b row.algorithm x → T.alternative_of x ≡ None → IsWrongSalted T b row 1 × HasNone (IsSaltedOf T b row)
    wrong_kind t x at none = (
      salted_algorithm (λ y is.
          let same : y ≡ x = same_part b row.algorithm x y at.0 is.0.0 in
          let found : Some is.1.0 ≡ None = sym (t.there is.1.0) ∙ ap T.alternative_of (is.1.1 ∙ same) ∙ none in
          cc),
      Lacks.no_kind b row T t x at none,
    )

    pub wrong_flag : row.has_salt ≡ 0 → IsWrongSalted T b row 5 × HasNone (IsSaltedOf T b row)
    wrong_flag flag = (salted_no_salt flag, Lacks.no_salt_flag b row T flag)

    pub wrong_salt : (n : ℕ) → (n ≡ 5) × HasNone (IsPartOf b row.salt) → IsWrongSalted T b row n × HasNone (IsSaltedOf T b row)
    wrong_salt n e = (subst (IsWrongSalted T b row) (sym e.0) (salted_salt e.1), Lacks.no_salt b row T e.1)

    pub wrong_count : (n : ℕ) → (n ≡ 11) × HasNone (IsNumberOf row.iterations) → IsWrongSalted T b row n × HasNone (IsSaltedOf T b row)
    wrong_count n e = (subst (IsWrongSalted T b row) (sym e.0) (salted_iterations e.1), Lacks.no_count b row T e.1)

  -- PBKDF2
  pub wrong_pbkdf2_salt : (n : ℕ) → (n ≡ 5) × HasNone (IsPartOf b row.salt) → IsWrongPbkdf2 b row n × HasNone (IsPbkdf2Of b row)
  wrong_pbkdf2_salt n e = (subst (IsWrongPbkdf2 b row) (sym e.0) (pbkdf2_salt e.1), Lacks.pbkdf2_salt b row e.1)

  pub wrong_pbkdf2_count : (n : ℕ) → (n ≡ 11) × HasNone (IsNumberOf row.iterations) → IsWrongPbkdf2 b row n × HasNone (IsPbkdf2Of b row)
  wrong_pbkdf2_count n e = (subst (IsWrongPbkdf2 b row) (sym e.0) (pbkdf2_iterations e.1), Lacks.pbkdf2_count b row e.1)

  pub wrong_length : (n : ℕ) → (n ≡ 12) × HasNone (IfGiven row.has_key_length (IsNumberOf row.key_length)) → IsWrongPbkdf2 b row n × HasNone (IsPbkdf2Of b row)
  wrong_length n e = (subst (IsWrongPbkdf2 b row) (sym e.0) (pbkdf2_key_length e.1), Lacks.pbkdf2_length b row e.1)

  pub wrong_prf : (n : ℕ) → (n ≡ 6) × HasNone (IfGiven row.has_prf (IsOidOf b row.prf)) → IsWrongPbkdf2 b row n × HasNone (IsPbkdf2Of b row)
  wrong_prf n e = (subst (IsWrongPbkdf2 b row) (sym e.0) (pbkdf2_prf e.1), Lacks.pbkdf2_prf b row e.1)

  -- the key derivation
  pub wrong_pbkdf2 : (n : ℕ) → row.is_pbkdf2 ≢ 0 → row.has_salt ≢ 0 → IsWrongPbkdf2 b row n × HasNone (IsPbkdf2Of b row) → IsWrongDerivation b row n × HasNone (IsDerivationOf b row)
  wrong_pbkdf2 n flag some e = (derivation_pbkdf2 n flag some e.0, Lacks.no_pbkdf2 b row flag some e.1)

  no_salt_there : row.is_pbkdf2 ≢ 0 → row.has_salt ≡ 0 → row.has_derivation_parameters ≡ 0 → HasNone (IsDerivationOf b row)
  no_salt_there flag none no_element (inl v) is = is.1 none
  no_salt_there flag none no_element (inr w) (inl off, is) = flag off
  no_salt_there flag none no_element (inr w) (inr off, is) = off.1 no_element

  pub wrong_derivation_salt : row.is_pbkdf2 ≢ 0 → row.has_salt ≡ 0 → row.has_derivation_parameters ≡ 0 → IsWrongDerivation b row 5 × HasNone (IsDerivationOf b row)
  wrong_derivation_salt flag none no_element = (derivation_no_salt flag none no_element, no_salt_there flag none no_element)

  pub wrong_derivation : (n : ℕ) → IsByIdentifier row → IsWrongOther b row.derivation 3 row.has_derivation_parameters row.derivation_parameters 4 n × HasNone (IsOtherOf b row.derivation row.has_derivation_parameters row.derivation_parameters) → IsWrongDerivation b row n × HasNone (IsDerivationOf b row)
  wrong_derivation n by e = (derivation_other n by e.0, Lacks.no_other b row by e.1)

  -- the encryption scheme
  pub wrong_vector_oid : (n : ℕ) → (n ≡ 7) × HasNone (IsOidOf b row.encryption) → IsWrongVector b row n × HasNone (IsVectorOf b row)
  wrong_vector_oid n e = (subst (IsWrongVector b row) (sym e.0) (vector_algorithm e.1), Lacks.vector_oid b row e.1)

  pub wrong_vector : (n : ℕ) → (n ≡ 9) × HasNone (IsPartOf b row.initialization_vector) → IsWrongVector b row n × HasNone (IsVectorOf b row)
  wrong_vector n e = (subst (IsWrongVector b row) (sym e.0) (vector_itself e.1), Lacks.vector_octets b row e.1)

  pub wrong_encryption_vector : (n : ℕ) → row.has_initialization_vector ≢ 0 → IsWrongVector b row n × HasNone (IsVectorOf b row) → IsWrongEncryption b row n × HasNone (IsEncryptionOf b row)
  wrong_encryption_vector n flag e = (encryption_vector n flag e.0, Lacks.no_vector b row flag e.1)

  pub wrong_encryption : (n : ℕ) → row.has_initialization_vector ≡ 0 → IsWrongOther b row.encryption 7 row.has_encryption_parameters row.encryption_parameters 8 n × HasNone (IsOtherOf b row.encryption row.has_encryption_parameters row.encryption_parameters) → IsWrongEncryption b row n × HasNone (IsEncryptionOf b row)
  wrong_encryption n flag e = (encryption_other n flag e.0, Lacks.no_scheme b row flag e.1)

  -- PBES2
  pub wrong_pbes2_derivation : (n : ℕ) → IsWrongDerivation b row n × HasNone (IsDerivationOf b row) → IsWrongPbes2 b row n × HasNone (IsPbes2Of b row)
  wrong_pbes2_derivation n e = (inl e.0, Lacks.no_derivation b row e.1)

  pub wrong_pbes2_encryption : (n : ℕ) → IsWrongEncryption b row n × HasNone (IsEncryptionOf b row) → IsWrongPbes2 b row n × HasNone (IsPbes2Of b row)
  wrong_pbes2_encryption n e = (inr e.0, Lacks.no_encryption b row e.1)

  -- the algorithm
  pub wrong_pbes1 : (n : ℕ) → IsScheme row Schemes.Pbes1 → IsWrongSalted pbes1_table b row n × HasNone (IsSaltedOf pbes1_table b row) → IsWrongAlgorithm b row n × HasNone (IsAlgorithmOf b row)
  wrong_pbes1 n said e = (algorithm_pbes1 n said e.0, Lacks.no_pbes1 b row said e.1)

  pub wrong_pkcs12 : (n : ℕ) → IsScheme row Schemes.Pkcs12 → IsWrongSalted pkcs12_table b row n × HasNone (IsSaltedOf pkcs12_table b row) → IsWrongAlgorithm b row n × HasNone (IsAlgorithmOf b row)
  wrong_pkcs12 n said e = (algorithm_pkcs12 n said e.0, Lacks.no_pkcs12 b row said e.1)

  pub wrong_pbes2 : (n : ℕ) → IsScheme row Schemes.Pbes2 → IsWrongPbes2 b row n × HasNone (IsPbes2Of b row) → IsWrongAlgorithm b row n × HasNone (IsAlgorithmOf b row)
  wrong_pbes2 n said e = (algorithm_pbes2 n said e.0, Lacks.no_pbes2 b row said e.1)

  pub wrong_other : (n : ℕ) → IsScheme row Schemes.Other → IsWrongOther b row.algorithm 1 row.has_parameters row.parameters 2 n × HasNone (IsOtherOf b row.algorithm row.has_parameters row.parameters) → IsWrongAlgorithm b row n × HasNone (IsAlgorithmOf b row)
  wrong_other n said e = (algorithm_other n said e.0, Lacks.no_element b row said e.1)

  pub wrong_scheme : HasNone (IsScheme row) → IsWrongAlgorithm b row 13 × HasNone (IsAlgorithmOf b row)
  wrong_scheme none = (algorithm_scheme none, Lacks.no_scheme_said b row none)

  -- what is encrypted of a key
  pub key_there : {A : Type 0} (octets : A → List ℕ) (r : Result A ℕ) → row.has_encrypted ≢ 0 → MatchResult r (λ x. IsPartOf b row.encrypted (octets x)) (λ n. (n ≡ 10) × HasNone (IsPartOf b row.encrypted)) → MatchResult r (λ x. IsEncryptedOf b row (Some (octets x))) (λ n. (n ≡ 10) × HasNone (λ x. IsEncryptedOf b row (Some x)))
  key_there octets (Ok x) flag is = (flag, is)
  key_there octets (Err n) flag is = (is.0, λ x its. is.1 x its.1)

  -- what holds it
  pub wrong_in_key : (n : ℕ) → IsWrongAlgorithm b row n × HasNone (IsAlgorithmOf b row) → IsWrongPart Holders.Key b row n × GivesNone Holders.Key b row
  wrong_in_key n e = (inl e.0, Lacks.no_key_algorithm b row e.1)

  pub wrong_key : (n : ℕ) → (n ≡ 10) × HasNone (λ x. IsEncryptedOf b row (Some x)) → IsWrongPart Holders.Key b row n × GivesNone Holders.Key b row
  wrong_key n e = (inr e, Lacks.no_key b row e.1)

  pub wrong_in_contents : (n : ℕ) → IsWrongAlgorithm b row n × HasNone (IsAlgorithmOf b row) → IsWrongPart Holders.Contents b row n × GivesNone Holders.Contents b row
  wrong_in_contents n e = (inl e.0, Lacks.no_contents_algorithm b row e.1)

  pub wrong_contents : (n : ℕ) → (n ≡ 10) × HasNone (IsEncryptedOf b row) → IsWrongPart Holders.Contents b row n × GivesNone Holders.Contents b row
  wrong_contents n e = (inr e, Lacks.no_contents b row e.1)
