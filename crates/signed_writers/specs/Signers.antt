-- Signers, read from parts that are given as octets (RFC 5652, 5.3).
use Rattle.std.specs.Prelude.{◌≡◌, ◌≢◌, List, [], Option, None, Some}
use Rattle.std.proofs.Common.{inl, inr}
use Rattle.asn1_core.specs.Asn1.{SEQUENCE}
use Rattle.asn1_core.specs.Der.{Format, Octets, option_value}
use Rattle.asn1_core_element.specs.declared.error.Error.TheVariants.{Memory, TooLong}
use Rattle.pkcs7_attributes.specs.SignedSets.{attributes_as_set}
use Rattle.pkcs7_signed_crl.specs.SignerParts.{issuer_and_serial_number, signer_identifier}
use Rattle.pkcs7_verifier.specs.Heads.{certificate_head}
use Rattle.signed_writers.specs.Versions.{signer_version}
use Rattle.signed_writers.specs.declared.signers.Identifier.{Identifier}
use Rattle.signed_writers.specs.declared.signers.Identifier.TheVariants.{Certificate, Key}
use Rattle.signed_writers.specs.declared.signers.NotRead.{NotRead}
use Rattle.signed_writers.specs.declared.signers.Signer.{Signer}
use Rattle.signed_writers.specs.declared.signers.SignerPart.{SignerPart}
use Rattle.signed_writers.specs.declared.signers.SignerPart.TheVariants as Parts
use Rattle.signer_ranges.specs.SignerRoutes.{ALGORITHM, SignerValue}
use Rattle.signer_ranges.specs.Signers.{digest_algorithm_of, sid_of, signature_algorithm_of, signature_of, signed_of}
use Rattle.x509_base.specs.Names.{attribute}
use Rattle.x509_pkcs7.specs.RawAttributes.{unsigned_of}

-- there is one of which P holds
abbrev pub HasOne : {X : Type 0} → (X → Type 0) → Type 0
HasOne {X} P = (x : X) × P x

-- the octets have a value
abbrev pub IsReadAs : {V : Type 0} → Format V → Octets → Type 0
IsReadAs F x = HasOne (F.Reads 64 x)

-- it isn't too long, and P doesn't hold, unless memory was refused
abbrev pub IsUnread : Type 0 → NotRead → Type 0
IsUnread P e = (e.error ≢ TooLong) × (e.error ≢ Memory → P → ⊥)

-- the same, and it is that part
abbrev pub IsUnreadAs : Type 0 → SignerPart → NotRead → Type 0
IsUnreadAs P part e = IsUnread P e × (e.part ≡ part)

-- the issuer and the serial number of a certificate
abbrev pub IsIssuerOf : certificate_head.Value → issuer_and_serial_number.Value → Type 0
IsIssuerOf v i = (v.0.1.1.1.0 ≡ i.0) × (v.0.1.0 ≡ i.1.0)

abbrev pub IsIdentifierIn : Identifier → signer_identifier.Value → Type 0
IsIdentifierIn (Certificate x) (inl i) = (v : certificate_head.Value) × (SEQUENCE certificate_head).format.Reads 64 x.now v × IsIssuerOf v i
IsIdentifierIn (Certificate x) (inr k) = ⊥
IsIdentifierIn (Key x) (inl i) = ⊥
IsIdentifierIn (Key x) (inr k) = k ≡ x.now

-- the attributes of a SET OF that isn't empty, or none
abbrev pub AreAttributesIn : Option Octets → List attribute.Value → Type 0
AreAttributesIn None all = all ≡ []
AreAttributesIn (Some x) all = (all ≢ []) × attributes_as_set.Reads 64 x all

-- the signer whose parts are given
pub record IsSignerIn (given : Signer) (s : SignerValue) : Type 0 where
  pub version : s.0 ≡ signer_version (sid_of s)
  pub identifier : IsIdentifierIn given.identifier (sid_of s)
  pub digest_algorithm : ALGORITHM.format.Reads 64 given.digest_algorithm.now (digest_algorithm_of s)
  pub signed : AreAttributesIn (option_value (λ o. o.now) given.signed_attributes) (signed_of s)
  pub signature_algorithm : ALGORITHM.format.Reads 64 given.signature_algorithm.now (signature_algorithm_of s)
  pub signature : signature_of s ≡ given.signature.now
  pub unsigned : AreAttributesIn (option_value (λ o. o.now) given.unsigned_attributes) (unsigned_of s)

-- the part isn't what it has to be. Any octets are a signature
abbrev pub IsWrongPart : Signer → SignerPart → Type 0
IsWrongPart given Parts.Identifier = HasOne (IsIdentifierIn given.identifier) → ⊥
IsWrongPart given Parts.DigestAlgorithm = IsReadAs ALGORITHM.format given.digest_algorithm.now → ⊥
IsWrongPart given Parts.SignedAttributes = HasOne (AreAttributesIn (option_value (λ o. o.now) given.signed_attributes)) → ⊥
IsWrongPart given Parts.SignatureAlgorithm = IsReadAs ALGORITHM.format given.signature_algorithm.now → ⊥
IsWrongPart given Parts.Signature = ⊥
IsWrongPart given Parts.UnsignedAttributes = HasOne (AreAttributesIn (option_value (λ o. o.now) given.unsigned_attributes)) → ⊥

-- why no signer is read: that part is wrong, unless memory was refused
abbrev pub IsNoSigner : Signer → NotRead → Type 0
IsNoSigner given e = (e.error ≢ TooLong) × (e.error ≢ Memory → IsWrongPart given e.part)
