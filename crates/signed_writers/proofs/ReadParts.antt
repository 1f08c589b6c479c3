-- Parts of a signer that are read.
use Rattle.std.specs.Prelude.{◌≡◌, ℕ, List, [], Option, Some}
use Rattle.std.proofs.Common.{inl, subst, sym, ◌∙◌}
use Rattle.asn1_core.specs.Asn1.{SEQUENCE}
use Rattle.asn1_core.specs.Der.{Octets, option_value}
use Rattle.asn1_core_format.specs.Whole.{IsValueOf}
use Rattle.pkcs7_attributes.specs.SignedSets.{attributes_as_set}
use Rattle.pkcs7_signed_crl.specs.SignerParts.{issuer_and_serial_number}
use Rattle.pkcs7_verifier.specs.Heads.{certificate_head}
use Rattle.signed_writers.specs.Signers.{AreAttributesIn, HasOne, IsIdentifierIn, IsIssuerOf, IsNoSigner, IsReadAs, IsSignerIn, IsUnreadAs, IsWrongPart}
use Rattle.signed_writers.specs.declared.signers.Identifier.{Identifier}
use Rattle.signed_writers.specs.declared.signers.Identifier.TheVariants.{Certificate}
use Rattle.signed_writers.specs.declared.signers.NotRead.{NotRead}
use Rattle.signed_writers.specs.declared.signers.Signer.{Signer}
use Rattle.signed_writers.specs.declared.signers.SignerPart.{SignerPart}
use Rattle.signed_writers.specs.declared.signers.SignerPart.TheVariants as Parts
use Rattle.signer_ranges.specs.SignerRoutes.{ALGORITHM}
use Rattle.signer_ranges.specs.Signers.{digest_algorithm_of, sid_of, signature_algorithm_of, signed_of}
use Rattle.x509_base.specs.Names.{attribute}
use Rattle.x509_pkcs7.specs.RawAttributes.{unsigned_of}
use denote.Ref.{Bor}

pub by_certificate : (given : Identifier) (x : Bor (List ℕ)) → given ≡ Certificate x → (v : certificate_head.Value) → IsValueOf (SEQUENCE certificate_head).format 64 x.now v → (i : issuer_and_serial_number.Value) → IsIssuerOf v i → IsIdentifierIn given (inl i)
by_certificate given x e v r i n = subst (λ g. IsIdentifierIn g (inl i)) (sym e) (v, r.reads, n)

pub empty_set : (o : Option Octets) (x : Octets) → o ≡ Some x → (vs : List attribute.Value) → IsValueOf attributes_as_set 64 x vs → vs ≡ [] → HasOne (AreAttributesIn o) → ⊥
empty_set o x e vs r n h =
    let h' : AreAttributesIn (Some x) h.0 = subst (λ q. AreAttributesIn q h.0) e h.1 in
    h'.0 (r.only h.0 h'.1 ∙ n)

-- a part isn't read
pub unread_at : (given : Signer) (part : SignerPart) (P : Type 0) → ((P → ⊥) → IsWrongPart given part) → (e : NotRead) → IsUnreadAs P part e → IsNoSigner given e
unread_at given part P wrong e u = (u.0.0, λ m. subst (IsWrongPart given) (sym u.1) (wrong (u.0.1 m)))

module _ (given : Signer) (e : NotRead) where
  pub without_identifier : IsUnreadAs (HasOne (IsIdentifierIn given.identifier)) Parts.Identifier e → IsNoSigner given e
  without_identifier u = unread_at given Parts.Identifier (HasOne (IsIdentifierIn given.identifier)) (λ n. n) e u

  pub without_digest : IsUnreadAs (IsReadAs ALGORITHM.format given.digest_algorithm.now) Parts.DigestAlgorithm e → IsNoSigner given e
  without_digest u = unread_at given Parts.DigestAlgorithm (IsReadAs ALGORITHM.format given.digest_algorithm.now) (λ n. n) e u

  pub without_signed : IsUnreadAs (HasOne (AreAttributesIn (option_value (λ o. o.now) given.signed_attributes))) Parts.SignedAttributes e → IsNoSigner given e
  without_signed u = unread_at given Parts.SignedAttributes (HasOne (AreAttributesIn (option_value (λ o. o.now) given.signed_attributes))) (λ n. n) e u

  pub without_signature : IsUnreadAs (IsReadAs ALGORITHM.format given.signature_algorithm.now) Parts.SignatureAlgorithm e → IsNoSigner given e
  without_signature u = unread_at given Parts.SignatureAlgorithm (IsReadAs ALGORITHM.format given.signature_algorithm.now) (λ n. n) e u

  pub without_unsigned : IsUnreadAs (HasOne (AreAttributesIn (option_value (λ o. o.now) given.unsigned_attributes))) Parts.UnsignedAttributes e → IsNoSigner given e
  without_unsigned u = unread_at given Parts.UnsignedAttributes (HasOne (AreAttributesIn (option_value (λ o. o.now) given.unsigned_attributes))) (λ n. n) e u

  -- a wrong part is of no signer
  pub none_with : (part : SignerPart) → IsWrongPart given part → HasOne (IsSignerIn given) → ⊥
  none_with Parts.Identifier n (s, is) = n (sid_of s, is.identifier)
  none_with Parts.DigestAlgorithm n (s, is) = n (digest_algorithm_of s, is.digest_algorithm)
  none_with Parts.SignedAttributes n (s, is) = n (signed_of s, is.signed)
  none_with Parts.SignatureAlgorithm n (s, is) = n (signature_algorithm_of s, is.signature_algorithm)
  none_with Parts.Signature n h = n
  none_with Parts.UnsignedAttributes n (s, is) = n (unsigned_of s, is.unsigned)
