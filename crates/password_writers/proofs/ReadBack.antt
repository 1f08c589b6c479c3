-- What is written for given parameters is read as them.
use Rattle.std.specs.Prelude.{◌≡◌, None, Some}
use Rattle.std.proofs.Common.{ap, inl, inr, refl, subst, ◌∙◌}
use Rattle.asn1_core.specs.Asn1.{OBJECT_IDENTIFIER, OCTET_STRING, SEQUENCE}
use Rattle.asn1_core.specs.Der.{Format, IsElement, IsLawful, IsTagByte, OidOctets}
use Rattle.asn1_core_format.specs.Whole.{IsValueOf}
use Rattle.asn1_core_format.specs.laws.Whole.{value_of}
use Rattle.password_ranges.specs.Heads.{ALGORITHM, pbes2_head, pbkdf2_head}
use Rattle.password_ranges.specs.Parameters.{AlgorithmValue, AreParameters}
use Rattle.password_writers.specs.Given.{DerivationValue, EncryptionValue, GivenValue, Pbes2PartsValue, algorithm_of, derivation, derivation_of, encryption, encryption_of, given, pbkdf2_of, salted_pbkdf2, pbes2_parts, pbes2_of, with_parameters}
use Rattle.password_writers.specs.Written.{AreDerivationOf, AreEncryptionOf, ArePartsOf}
use Rattle.pkcs12_algs.specs.Pbes1.{pbes1_params}

module _ {V : Type 0} (F : Format V) (f : IsLawful F) (v : V) (h : F.IsWellFormed 64 v) where
  pub read_back : F.normal v ≡ v → IsValueOf F 64 (F.text v) v
  read_back e = value_of F 64 (F.text v) v f (subst (λ n. F.Reads 64 (F.text v) n) e (f.components.text_reads 64 v h))

  pub is_element : IsElement IsTagByte (F.text v)
  is_element =
      let e = f.element 64 (F.text v) (F.normal v) (f.components.text_reads 64 v h) in
      record { tag = e.tag; contents = e.contents; is_tag = e.is_tag; is = e.is; allowed = e.is_tag }

  pub are_parameters : (oid : OidOctets) → F.normal v ≡ v → AreParameters F (with_parameters F oid v) v
  are_parameters oid e = record { element = F.text v; is_element = refl; reads = read_back e }

  pub algorithm_formed : (oid : OidOctets) → OBJECT_IDENTIFIER.format.IsWellFormed 64 oid → ALGORITHM.format.IsWellFormed 64 (with_parameters F oid v)
  algorithm_formed oid o = (o, (is_element, tt))

-- these are normal as they are
pub algorithm_normal : (w : AlgorithmValue) → ALGORITHM.format.normal w ≡ w
algorithm_normal (oid, (None, u)) = refl
algorithm_normal (oid, (Some x, u)) = refl

pbkdf2_normal : (p : salted_pbkdf2.Value) → (SEQUENCE pbkdf2_head).format.normal (pbkdf2_of p) ≡ pbkdf2_of p
pbkdf2_normal (salt, (n, (None, (None, u)))) = refl
pbkdf2_normal (salt, (n, (Some m, (None, u)))) = refl
pbkdf2_normal (salt, (n, (None, (Some (oid, (None, w)), u)))) = refl
pbkdf2_normal (salt, (n, (None, (Some (oid, (Some x, w)), u)))) = refl
pbkdf2_normal (salt, (n, (Some m, (Some (oid, (None, w)), u)))) = refl
pbkdf2_normal (salt, (n, (Some m, (Some (oid, (Some x, w)), u)))) = refl

derivation_formed : (d : DerivationValue) → derivation.IsWellFormed 64 d → ALGORITHM.format.IsWellFormed 64 (derivation_of d)
derivation_formed (inl v) h = algorithm_formed (SEQUENCE pbkdf2_head).format (SEQUENCE pbkdf2_head).law (pbkdf2_of v.1.0) h.1.0 v.0 h.0
derivation_formed (inr w) h = h

are_derivation : (d : DerivationValue) → derivation.IsWellFormed 64 d → AreDerivationOf d (derivation_of d)
are_derivation (inl v) h = are_parameters (SEQUENCE pbkdf2_head).format (SEQUENCE pbkdf2_head).law (pbkdf2_of v.1.0) h.1.0 v.0 (pbkdf2_normal v.1.0)
are_derivation (inr w) h = refl

encryption_formed : (d : EncryptionValue) → encryption.IsWellFormed 64 d → ALGORITHM.format.IsWellFormed 64 (encryption_of d)
encryption_formed (inl v) h = algorithm_formed OCTET_STRING.format OCTET_STRING.law v.1.0 h.1.0 v.0 h.0
encryption_formed (inr w) h = h

are_encryption : (d : EncryptionValue) → encryption.IsWellFormed 64 d → AreEncryptionOf d (encryption_of d)
are_encryption (inl v) h = are_parameters OCTET_STRING.format OCTET_STRING.law v.1.0 h.1.0 v.0 refl
are_encryption (inr w) h = refl

pbes2_formed : (s : Pbes2PartsValue) → pbes2_parts.IsWellFormed 64 s → (SEQUENCE pbes2_head).format.IsWellFormed 64 (pbes2_of s)
pbes2_formed s h = (derivation_formed s.0 h.0, (encryption_formed s.1.0 h.1.0, tt))

two : (v w x y : AlgorithmValue) → v ≡ x → w ≡ y → ◌≡◌ {A = pbes2_head.Value} (v, (w, tt)) (x, (y, tt))
two v w x y e f = ap (λ a. (a, (w, tt))) e ∙ ap (λ b. (x, (b, tt))) f

pbes2_normal : (s : Pbes2PartsValue) → (SEQUENCE pbes2_head).format.normal (pbes2_of s) ≡ pbes2_of s
pbes2_normal s = two _ _ _ _ (algorithm_normal (derivation_of s.0)) (algorithm_normal (encryption_of s.1.0))

pub given_formed : (g : GivenValue) → given.IsWellFormed 64 g → ALGORITHM.format.IsWellFormed 64 (algorithm_of g)
given_formed (inl v) h = algorithm_formed (SEQUENCE pbes1_params).format (SEQUENCE pbes1_params).law v.1.0 h.1.0 v.0 h.0
given_formed (inr (inl v)) h = algorithm_formed (SEQUENCE pbes2_head).format (SEQUENCE pbes2_head).law (pbes2_of v.1.0) (pbes2_formed v.1.0 h.1.0) v.0 h.0
given_formed (inr (inr w)) h = h

pub are_parts : (g : GivenValue) → given.IsWellFormed 64 g → ArePartsOf g (algorithm_of g)
are_parts (inl v) h = are_parameters (SEQUENCE pbes1_params).format (SEQUENCE pbes1_params).law v.1.0 h.1.0 v.0 refl
are_parts (inr (inl v)) h = (
  are_parameters (SEQUENCE pbes2_head).format (SEQUENCE pbes2_head).law (pbes2_of v.1.0) (pbes2_formed v.1.0 h.1.0) v.0 (pbes2_normal v.1.0),
  are_derivation v.1.0.0 h.1.0.0,
  are_encryption v.1.0.1.0 h.1.0.1.0,
)
are_parts (inr (inr w)) h = refl
