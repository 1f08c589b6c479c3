-- Which certificate is a signer's (RFC 5652, 5.3).
use Rattle.asn1_core.specs.Asn1.{SEQUENCE}
use Rattle.std.specs.Prelude.{◌≡◌, ◌⊎◌, List, [], ◌∷◌, Option, None, Some}
use Rattle.std.proofs.Common.{inl, inr}
use Rattle.asn1_core.specs.Der.{ElementOctets}
use Rattle.pkcs7_signed_crl.specs.Certificates.{certificate_choices}
use Rattle.pkcs7_signed_crl.specs.SignerParts.{signer_identifier}
use Rattle.pkcs7_verifier.specs.Heads.{certificate_head}
use Rattle.pkcs7_verifier.specs.KeyIdentifiers.{rest_of, IsKeyIdOf, HasExtensions}

-- the certificate has that issuer and that serial number, or that identifier of its key
abbrev pub IsNamedBy : signer_identifier.Value → certificate_head.Value → Type 0
IsNamedBy (inl i) v = (v.0.1.1.1.0 ≡ i.0) × (v.0.1.0 ≡ i.1.0)
IsNamedBy (inr key) v = IsKeyIdOf (rest_of v) (Some key)

-- the element is a certificate of which that is true
abbrev pub IsSigners : signer_identifier.Value → ElementOctets → Type 0
IsSigners id b = (v : certificate_head.Value) × (SEQUENCE certificate_head).format.Reads 64 b v × IsNamedBy id v

-- to tell whether a signer names a certificate takes memory: it names a key, and the certificate has extensions to read
abbrev pub NeedsExtensions : signer_identifier.Value → certificate_head.Value → Type 0
NeedsExtensions (inl i) v = ⊥
NeedsExtensions (inr key) v = HasExtensions (rest_of v)

-- the octets of a certificate, or of another choice
abbrev pub choice_octets : certificate_choices.Value → ElementOctets
choice_octets (inl b) = b
choice_octets (inr b) = b

-- the first of which P is true, or none where it is true of none
abbrev pub IsFirst : {X : Type 0} → (X → Type 0) → List X → Option X → Type 0
IsFirst P [] found = found ≡ None
IsFirst P (x ∷ xs) found = (P x × (found ≡ Some x)) ⊎ ((P x → ⊥) × IsFirst P xs found)
