-- Of what can't be written, nothing larger is given.
use Rattle.std.specs.Prelude.{◌≡◌, ◌≢◌, ◌⊎◌, ℕ, List, Option, None, Some}
use Rattle.std.proofs.Common.{ap, inl, inr, sym, ◌∙◌}
use Rattle.asn1_choices.specs.Tables.{IsTable, Table}
use Rattle.password_calls.specs.Built.{GivesNone, IsAlgorithmOf, IsDerivationOf, IsEncryptedOf, IsEncryptionOf, IsPbkdf2Of, IsPrfOf, IsSaltedOf, IsPbes2Of, IsVectorOf}
use Rattle.password_calls.specs.WrongParts.{IsScheme}
use Rattle.call_values.specs.Given.{HasNone, IfGiven, IsNumberOf, IsOidOf, IsPartOf}
use Rattle.password_calls.specs.Others.{IsOtherOf}
use Rattle.password_calls.specs.declared.built.Scheme.TheVariants as Schemes
use Rattle.password_calls.specs.declared.passwords.Holder.TheVariants as Holders
use Rattle.password_calls.specs.declared.passwords.Password.{Password}
use Rattle.password_ranges.specs.Parameters.{AlgorithmValue}
use Rattle.password_ranges.specs.SaltKinds.{pbes1_table, pkcs12_table}

module _ (b : List ℕ) (row : Password) where
  module _ {K : Type 0} (T : Table K) where
    pub no_salted : HasNone (IsOidOf b row.algorithm) → HasNone (IsSaltedOf T b row)
    no_salted none v is = none v.0 is.algorithm

    pub no_kind : IsTable T → (x : List ℕ) → IsOidOf b row.algorithm x → T.alternative_of x ≡ None → HasNone (IsSaltedOf T b row)
    no_kind t x at none v is =
        let same : x ≡ v.0 = at.0.1 ∙ sym is.algorithm.0.1 in
        let found : Some is.kind ≡ None = sym (t.there is.kind) ∙ ap T.alternative_of (is.is_kind ∙ sym same) ∙ none in
        cc

    pub no_salt_flag : row.has_salt ≡ 0 → HasNone (IsSaltedOf T b row)
    no_salt_flag flag v is = is.has_salt flag

    pub no_salt : HasNone (IsPartOf b row.salt) → HasNone (IsSaltedOf T b row)
    no_salt none v is = none v.1.0.0 is.salt

    pub no_count : HasNone (IsNumberOf row.iterations) → HasNone (IsSaltedOf T b row)
    no_count none v is = none v.1.0.1.0 is.iterations

  -- PBKDF2
  pub pbkdf2_salt : HasNone (IsPartOf b row.salt) → HasNone (IsPbkdf2Of b row)
  pbkdf2_salt none p is = none p.0 is.salt

  pub pbkdf2_count : HasNone (IsNumberOf row.iterations) → HasNone (IsPbkdf2Of b row)
  pbkdf2_count none p is = none p.1.0 is.iterations

  pub pbkdf2_length : HasNone (IfGiven row.has_key_length (IsNumberOf row.key_length)) → HasNone (IsPbkdf2Of b row)
  pbkdf2_length none p is = none p.1.1.0 is.key_length

  prf_oid : (o : Option AlgorithmValue) → IfGiven row.has_prf (IsPrfOf b row) o → (x : Option (List ℕ)) × IfGiven row.has_prf (IsOidOf b row.prf) x
  prf_oid None is = (None, is)
  prf_oid (Some w) is = (Some w.0, (is.0, is.1.0))

  pub pbkdf2_prf : HasNone (IfGiven row.has_prf (IsOidOf b row.prf)) → HasNone (IsPbkdf2Of b row)
  pbkdf2_prf none p is = let oid = prf_oid p.1.1.1.0 is.prf in none oid.0 oid.1

  -- the key derivation
  pub no_pbkdf2 : row.is_pbkdf2 ≢ 0 → row.has_salt ≢ 0 → HasNone (IsPbkdf2Of b row) → HasNone (IsDerivationOf b row)
  no_pbkdf2 flag salt none (inl v) is = none v.1.0 is.3
  no_pbkdf2 flag salt none (inr w) (inl off, is) = flag off
  no_pbkdf2 flag salt none (inr w) (inr off, is) = salt off.0

  pub no_other : (row.is_pbkdf2 ≡ 0) ⊎ ((row.has_salt ≡ 0) × (row.has_derivation_parameters ≢ 0)) → HasNone (IsOtherOf b row.derivation row.has_derivation_parameters row.derivation_parameters) → HasNone (IsDerivationOf b row)
  no_other (inl off) none (inl v) is = is.0 off
  no_other (inr off) none (inl v) is = is.1 off.0
  no_other (inl off) none (inr w) is = none w is.1
  no_other (inr off) none (inr w) is = none w is.1

  -- the encryption scheme
  pub vector_oid : HasNone (IsOidOf b row.encryption) → HasNone (IsVectorOf b row)
  vector_oid none v is = none v.0 is.0

  pub vector_octets : HasNone (IsPartOf b row.initialization_vector) → HasNone (IsVectorOf b row)
  vector_octets none v is = none v.1.0 is.1

  pub no_vector : row.has_initialization_vector ≢ 0 → HasNone (IsVectorOf b row) → HasNone (IsEncryptionOf b row)
  no_vector flag none (inl v) is = none v is.1
  no_vector flag none (inr w) is = flag is.0

  pub no_scheme : row.has_initialization_vector ≡ 0 → HasNone (IsOtherOf b row.encryption row.has_encryption_parameters row.encryption_parameters) → HasNone (IsEncryptionOf b row)
  no_scheme flag none (inl v) is = is.0 flag
  no_scheme flag none (inr w) is = none w is.1

  -- PBES2
  pub no_derivation : HasNone (IsDerivationOf b row) → HasNone (IsPbes2Of b row)
  no_derivation none v is = none v.1.0.0 is.derivation

  pub no_encryption : HasNone (IsEncryptionOf b row) → HasNone (IsPbes2Of b row)
  no_encryption none v is = none v.1.0.1.0 is.encryption

  -- the algorithm
  pub no_scheme_said : HasNone (IsScheme row) → HasNone (IsAlgorithmOf b row)
  no_scheme_said none (inl v) (inl is) = none Schemes.Pbes1 is.0
  no_scheme_said none (inl v) (inr is) = none Schemes.Pkcs12 is.0
  no_scheme_said none (inr (inl v)) is = none Schemes.Pbes2 is.0
  no_scheme_said none (inr (inr w)) is = none Schemes.Other is.0

  pub no_pbes1 : IsScheme row Schemes.Pbes1 → HasNone (IsSaltedOf pbes1_table b row) → HasNone (IsAlgorithmOf b row)
  no_pbes1 said none (inl v) (inl is) = none v is.1
  no_pbes1 said none (inl v) (inr is) = said.0 is.0.0
  no_pbes1 said none (inr (inl v)) is = said.0 is.0.0
  no_pbes1 said none (inr (inr w)) is = said.0 is.0.0

  pub no_pkcs12 : IsScheme row Schemes.Pkcs12 → HasNone (IsSaltedOf pkcs12_table b row) → HasNone (IsAlgorithmOf b row)
  no_pkcs12 said none (inl v) (inl is) = is.0.0 said.0
  no_pkcs12 said none (inl v) (inr is) = none v is.1
  no_pkcs12 said none (inr (inl v)) is = said.1 is.0.1
  no_pkcs12 said none (inr (inr w)) is = said.1 is.0.1

  pub no_pbes2 : IsScheme row Schemes.Pbes2 → HasNone (IsPbes2Of b row) → HasNone (IsAlgorithmOf b row)
  no_pbes2 said none (inl v) (inl is) = is.0.0 said.0
  no_pbes2 said none (inl v) (inr is) = is.0.1 said.1
  no_pbes2 said none (inr (inl v)) is = none v is.1
  no_pbes2 said none (inr (inr w)) is = said.2 is.0.2

  pub no_element : IsScheme row Schemes.Other → HasNone (IsOtherOf b row.algorithm row.has_parameters row.parameters) → HasNone (IsAlgorithmOf b row)
  no_element said none (inl v) (inl is) = is.0.0 said.0
  no_element said none (inl v) (inr is) = is.0.1 said.1
  no_element said none (inr (inl v)) is = is.0.2 said.2
  no_element said none (inr (inr w)) is = none w is.1

  -- what holds it
  pub no_key_algorithm : HasNone (IsAlgorithmOf b row) → GivesNone Holders.Key b row
  no_key_algorithm none g x is = none g is.algorithm

  pub no_key : HasNone (λ x. IsEncryptedOf b row (Some x)) → GivesNone Holders.Key b row
  no_key none g x is = none x is.encrypted_is

  pub no_contents_algorithm : HasNone (IsAlgorithmOf b row) → GivesNone Holders.Contents b row
  no_contents_algorithm none g o is = none g is.algorithm

  pub no_contents : HasNone (IsEncryptedOf b row) → GivesNone Holders.Contents b row
  no_contents none g o is = none o is.encrypted_is
