-- What is given is well-formed, so it is written.
use Rattle.std.specs.Prelude.{◌≡◌, ◌<◌, ◌^◌, ℕ, List, Option, None, Some, Result, Ok, Err, MatchResult}
use Rattle.std.proofs.Common.{arith, inl, inr, refl, subst, sym}
use Rattle.asn1_core.specs.Asn1.{SEQUENCE}
use Rattle.asn1_core.specs.Der.{Format, IsElement, IsOid, IsTagByte, oid_from_test}
use Rattle.asn1_core_element.specs.declared.error.Error.{Error}
use Rattle.asn1_core_format.specs.Components.{AllIf}
use Rattle.password_calls.specs.Built.{HasBuilt, IsAlgorithmOf, IsDerivationOf, IsEncryptionOf, IsGivenFor, IsPbkdf2Of, IsPrfOf, IsSaltedOf}
use Rattle.call_values.specs.Given.{IfGiven, IsNumberOf}
use Rattle.password_calls.specs.Others.{IsOtherOf}
use Rattle.password_calls.specs.NotBuilt.{IsNotBuilt, unless_refused}
use Rattle.call_values.specs.declared.not_built.NotBuilt.TheVariants.{Refused}
use Rattle.password_calls.specs.declared.passwords.Holder.{Holder}
use Rattle.password_calls.specs.declared.passwords.Holder.TheVariants.{Algorithm, Key, Contents}
use Rattle.password_calls.specs.declared.passwords.Password.{Password}
use Rattle.call_values.specs.declared.ranges.Octets.{Octets}
use Rattle.password_ranges.specs.Heads.{ALGORITHM}
use Rattle.password_ranges.specs.Holders.{encrypted_info, encrypted_key}
use Rattle.password_ranges.specs.Parameters.{AlgorithmValue}
use Rattle.password_writers.specs.Given.{DerivationValue, EncryptionValue, GivenValue, algorithm_of, derivation, encryption, given, salted_pbkdf2, with_salt}
use Rattle.password_writers.specs.Written.{IsNotWrittenAs, IsWrittenAs, info_of, key_of}
use Rattle.asn1_choices.specs.Tables.{Table}
use Rattle.password_ranges.specs.SaltKinds.{pbes1_table, pkcs12_table}
use Rattle.pkcs12_algs.specs.Oids.{pbes2_oid, pbkdf2_oid}
use Rattle.x509_base.specs.laws.AlgorithmLaws.{null_is_element}
use Rattle.x509_base.specs.Algorithms.{null}

pbes2_is_oid : IsOid pbes2_oid
pbes2_is_oid = oid_from_test pbes2_oid refl

pbkdf2_is_oid : IsOid pbkdf2_oid
pbkdf2_is_oid = oid_from_test pbkdf2_oid refl

element_is : (x : List ℕ) → Some x ≡ Some null → IsElement IsTagByte x
element_is x is = let same : x ≡ null = cc in subst (IsElement IsTagByte) (sym same) null_is_element

below : (n m : ℕ) → IsNumberOf n m → m < 2 ^ 32
below n m is = omega (arith, is.0, is.1)

module _ (b : List ℕ) where
  other_formed : (oid : Octets) (flag : ℕ) (parameters : Octets) (w : AlgorithmValue) → IsOtherOf b oid flag parameters w → ALGORITHM.format.IsWellFormed 64 w
  other_formed oid flag parameters (o, (None, u)) is = (is.algorithm.1, (tt, tt))
  other_formed oid flag parameters (o, (Some x, u)) is = (is.algorithm.1, (is.parameters_are.1.1, tt))

  module _ (row : Password) where
    salted_formed : {K : Type 0} (T : Table K) (v : with_salt.Value) → IsSaltedOf T b row v → (SEQUENCE with_salt).format.IsWellFormed 64 v
    salted_formed {K} T v is = (is.algorithm.1, ((tt, (below row.iterations v.1.0.1.0 is.iterations, tt)), tt))

    length_formed : (o : Option ℕ) → IfGiven row.has_key_length (IsNumberOf row.key_length) o → AllIf (λ n. n < 2 ^ 32) o
    length_formed None is = tt
    length_formed (Some n) is = below row.key_length n is.1

    prf_formed : (o : Option AlgorithmValue) → IfGiven row.has_prf (IsPrfOf b row) o → AllIf (ALGORITHM.format.IsWellFormed 64) o
    prf_formed None is = tt
    prf_formed (Some (oid, (None, u))) is = (is.1.0.1, (tt, tt))
    prf_formed (Some (oid, (Some x, u))) is = (is.1.0.1, (element_is x is.1.1, tt))

    pbkdf2_formed : (p : salted_pbkdf2.Value) → IsPbkdf2Of b row p → (SEQUENCE salted_pbkdf2).format.IsWellFormed 64 p
    pbkdf2_formed p is = (tt, (below row.iterations p.1.0 is.iterations, (length_formed p.1.1.0 is.key_length, (prf_formed p.1.1.1.0 is.prf, tt))))

    derivation_formed : (d : DerivationValue) → IsDerivationOf b row d → derivation.IsWellFormed 64 d
    derivation_formed (inl v) is = (subst IsOid (sym is.2) pbkdf2_is_oid, (pbkdf2_formed v.1.0 is.3, tt))
    derivation_formed (inr w) is = other_formed row.derivation row.has_derivation_parameters row.derivation_parameters w is.1

    encryption_formed : (d : EncryptionValue) → IsEncryptionOf b row d → encryption.IsWellFormed 64 d
    encryption_formed (inl v) is = (is.1.0.1, (tt, tt))
    encryption_formed (inr w) is = other_formed row.encryption row.has_encryption_parameters row.encryption_parameters w is.1

    formed : (g : GivenValue) → IsAlgorithmOf b row g → given.IsWellFormed 64 g
    formed (inl v) (inl is) = salted_formed pbes1_table v is.1
    formed (inl v) (inr is) = salted_formed pkcs12_table v is.1
    formed (inr (inl v)) is = (subst IsOid (sym is.1.algorithm) pbes2_is_oid, ((derivation_formed v.1.0.0 is.1.derivation, (encryption_formed v.1.0.1.0 is.1.encryption, tt)), tt))
    formed (inr (inr w)) is = other_formed row.algorithm row.has_parameters row.parameters w is.1

    -- the result of writing what is given for a holder
    module _ {V A : Type 0} (items : A → List ℕ) (F : Format V) (v : V) (g : GivenValue) (is : IsAlgorithmOf b row g) (holder : Holder) (has : (text : List ℕ) → IsWrittenAs F v g text → HasBuilt holder b row text) where
      why : (e : Error) → IsNotWrittenAs F v g e → IsNotBuilt holder b row (Refused e)
      why e (inl n) = absurd (n.1 (formed g is))
      why e (inr (inl n)) = inl (n.0, F.text v, has (F.text v) n.1, n.2)
      why e (inr (inr n)) = inr n

      built : (r : Result A Error) → MatchResult r (λ t. IsWrittenAs F v g (items t)) (λ e. IsNotWrittenAs F v g e) → MatchResult (unless_refused r) (λ t. HasBuilt holder b row (items t)) (λ wrong. IsNotBuilt holder b row wrong)
      built (Ok t) h = has (items t) h
      built (Err e) h = why e h

    module _ {A : Type 0} (items : A → List ℕ) (g : GivenValue) (r : Result A Error) where
      pub algorithm_built : IsAlgorithmOf b row g → MatchResult r (λ t. IsWrittenAs ALGORITHM.format (algorithm_of g) g (items t)) (λ e. IsNotWrittenAs ALGORITHM.format (algorithm_of g) g e) → MatchResult (unless_refused r) (λ t. HasBuilt Algorithm b row (items t)) (λ wrong. IsNotBuilt Algorithm b row wrong)
      algorithm_built is = built items ALGORITHM.format (algorithm_of g) g is Algorithm (λ text h. (g, is, h)) r

      pub key_built : (x : List ℕ) → IsGivenFor b row g (Some x) → MatchResult r (λ t. IsWrittenAs encrypted_key (key_of g x) g (items t)) (λ e. IsNotWrittenAs encrypted_key (key_of g x) g e) → MatchResult (unless_refused r) (λ t. HasBuilt Key b row (items t)) (λ wrong. IsNotBuilt Key b row wrong)
      key_built x is = built items encrypted_key (key_of g x) g is.algorithm Key (λ text h. (g, x, is, h)) r

      pub contents_built : (o : Option (List ℕ)) → IsGivenFor b row g o → MatchResult r (λ t. IsWrittenAs encrypted_info (info_of g o) g (items t)) (λ e. IsNotWrittenAs encrypted_info (info_of g o) g e) → MatchResult (unless_refused r) (λ t. HasBuilt Contents b row (items t)) (λ wrong. IsNotBuilt Contents b row wrong)
      contents_built o is = built items encrypted_info (info_of g o) g is.algorithm Contents (λ text h. (g, o, is, h)) r
