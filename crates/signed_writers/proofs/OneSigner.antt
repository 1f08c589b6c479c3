-- Of the parts that are given one signer is read.
use Rattle.std.specs.Prelude.{◌≡◌, List, Option, None, Some}
use Rattle.std.proofs.Common.{ap, inl, inr, refl, sym, ◌∙◌}
use Rattle.asn1_core.specs.Asn1.{SEQUENCE, SET_OF}
use Rattle.asn1_core.specs.Der.{Octets, option_value}
use Rattle.pkcs7_signed_crl.specs.SignerParts.{issuer_and_serial_number, signer_identifier}
use Rattle.pkcs7_verifier.specs.Heads.{certificate_head}
use Rattle.signed_writers.specs.Signers.{AreAttributesIn, IsIdentifierIn, IsIssuerOf, IsSignerIn}
use Rattle.signed_writers.specs.Versions.{signer_version}
use Rattle.signed_writers.specs.declared.signers.Identifier.{Identifier}
use Rattle.signed_writers.specs.declared.signers.Identifier.TheVariants.{Certificate, Key}
use Rattle.signed_writers.specs.declared.signers.Signer.{Signer}
use Rattle.signer_ranges.specs.SignerRoutes.{ALGORITHM, SignerValue}
use Rattle.signer_ranges.specs.Signers.{digest_algorithm_of, sid_of, signature_algorithm_of, signature_of, signed_of}
use Rattle.x509_base.specs.Names.{attribute}
use Rattle.x509_pkcs7.specs.RawAttributes.{unsigned_of}

pair : {A B : Type 0} {a c : A} {b d : B} → a ≡ c → b ≡ d → ◌≡◌ {A = A × B} (a, b) (c, d)
pair a b = cc

one_issuer : (v w : certificate_head.Value) (i j : issuer_and_serial_number.Value) → v ≡ w → IsIssuerOf v i → IsIssuerOf w j → i ≡ j
one_issuer v w i j e p q = pair (sym p.0 ∙ (ap (λ x. x.0.1.1.1.0) e ∙ q.0)) (pair (sym p.1 ∙ (ap (λ x. x.0.1.0) e ∙ q.1)) refl)

one_name : (x : Identifier) (i j : signer_identifier.Value) → IsIdentifierIn x i → IsIdentifierIn x j → i ≡ j
one_name (Certificate x) (inl i) (inl j) p q = ap inl (one_issuer p.0 q.0 i j ((SEQUENCE certificate_head).law.components.one_value 64 x.now p.0 q.0 p.1 q.1) p.2 q.2)
one_name (Certificate x) (inl i) (inr l) p q = absurd q
one_name (Certificate x) (inr k) j p q = absurd p
one_name (Key x) (inl i) j p q = absurd p
one_name (Key x) (inr k) (inl j) p q = absurd q
one_name (Key x) (inr k) (inr l) p q = ap inr (p ∙ sym q)

one_set : (o : Option Octets) (all more : List attribute.Value) → AreAttributesIn o all → AreAttributesIn o more → all ≡ more
one_set None all more p q = p ∙ sym q
one_set (Some x) all more p q = (SET_OF (SEQUENCE attribute)).law.components.one_value 64 x all more p.1 q.1

same_parts : (s t : SignerValue) → s.0 ≡ t.0 → sid_of s ≡ sid_of t → digest_algorithm_of s ≡ digest_algorithm_of t → signed_of s ≡ signed_of t → signature_algorithm_of s ≡ signature_algorithm_of t → signature_of s ≡ signature_of t → unsigned_of s ≡ unsigned_of t → s ≡ t
same_parts s t version sid digest signed algorithm signature unsigned = pair version (pair sid (pair digest (pair signed (pair algorithm (pair signature (pair unsigned refl))))))

module _ (x : Signer) (s t : SignerValue) (is : IsSignerIn x s) (its : IsSignerIn x t) where
  same_sid : sid_of s ≡ sid_of t
  same_sid = one_name x.identifier (sid_of s) (sid_of t) is.identifier its.identifier

  pub one_signer : s ≡ t
  one_signer =
      same_parts s t (is.version ∙ (ap (λ i. signer_version i) same_sid ∙ sym its.version)) same_sid
      (ALGORITHM.law.components.one_value 64 x.digest_algorithm.now (digest_algorithm_of s) (digest_algorithm_of t) is.digest_algorithm its.digest_algorithm)
      (one_set (option_value (λ o. o.now) x.signed_attributes) (signed_of s) (signed_of t) is.signed its.signed)
      (ALGORITHM.law.components.one_value 64 x.signature_algorithm.now (signature_algorithm_of s) (signature_algorithm_of t) is.signature_algorithm its.signature_algorithm)
      (is.signature ∙ sym its.signature)
      (one_set (option_value (λ o. o.now) x.unsigned_attributes) (unsigned_of s) (unsigned_of t) is.unsigned its.unsigned)
