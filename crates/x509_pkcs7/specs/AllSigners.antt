-- Which certificate is each signer's, where each certificate is read once (RFC 5652, 5.3).
use Rattle.std.specs.Prelude.{◌≡◌, ◌↔◌, ℕ, Bool, true, false, List, [], ◌∷◌, ◌++◌, Option, None, Some}
use Rattle.std.proofs.Common.{inl, inr, Vec, Global}
use Rattle.std.specs.BTreeMap.{BTreeMap, get_by}
use Rattle.std.specs.Cmp.Lexicographic.{slice_cmp}
use Rattle.std.specs.List.{enumerate_from}
use Rattle.std.specs.Ordering.{nat_cmp}
use Rattle.std.specs.Str.{bytes_eq}
use denote.Ref.{Bor}
use Rattle.asn1_core.specs.Asn1.{SEQUENCE}
use Rattle.asn1_core.specs.Der.{ElementOctets, Octets, option_value}
use Rattle.pkcs7_signed_crl.specs.SignerParts.{signer_identifier}
use Rattle.pkcs7_verifier.specs.Heads.{certificate_head, certificate_head_value}
use Rattle.pkcs7_verifier.specs.KeyIdentifiers.{rest_of, IsKeyIdOf}
use Rattle.pkcs7_verifier.specs.Matches.{IsNamedBy, IsSigners, IsFirst}
use Rattle.x509_base.specs.Names.{name}
use Rattle.x509_base.specs.declared.digests.SubjectKeyIdentifier.{SubjectKeyIdentifier}
use Rattle.x509_pkcs7.specs.declared.verifier.all_signers.KnownCertificate.{KnownCertificate}
use Rattle.x509_pkcs7.specs.declared.verifier.all_signers.NamedBy.{NamedBy}
use Rattle.x509_pkcs7.specs.declared.verifier.all_signers.NamedBy.TheVariants.{Issuer, Key}
use Rattle.x509_pkcs7.specs.declared.verifier.all_signers.SignerCertificate.{SignerCertificate}

-- for each signer, in their order, the first certificate that it names, or none: what `signer_certificate` returns for it
abbrev pub AreSigners : List ElementOctets → List signer_identifier.Value → List (Option ElementOctets) → Type 0
AreSigners certificates [] found = found ≡ []
AreSigners certificates (id ∷ ids) [] = ⊥
AreSigners certificates (id ∷ ids) (first ∷ found) = IsFirst (IsSigners id) certificates first × AreSigners certificates ids found

-- a certificate with its index
abbrev pub Numbered : Type 0
Numbered = ℕ × ElementOctets

-- it is one that the signer names
abbrev pub IsSignersAt : signer_identifier.Value → Numbered → Type 0
IsSignersAt id certificate = IsSigners id certificate.1

-- the same with the index of each first certificate, counted from 0
abbrev pub AreSignersAt : List ElementOctets → List signer_identifier.Value → List (Option Numbered) → Type 0
AreSignersAt certificates [] found = found ≡ []
AreSignersAt certificates (id ∷ ids) [] = ⊥
AreSignersAt certificates (id ∷ ids) (first ∷ found) = IsFirst (IsSignersAt id) (enumerate_from 0 certificates) first × AreSignersAt certificates ids found

abbrev pub numbered_of : SignerCertificate → Numbered
numbered_of c = (c.index, c.element.now.0.items)

-- what is known of a certificate: its index and its octets, its parts, and the identifier of its key, if it has one that
-- is read
abbrev pub KnownValue : Type 0
KnownValue = Numbered × (certificate_head.Value × Option Octets)

abbrev pub key_octets : Option SubjectKeyIdentifier → Option Octets
key_octets key = option_value (λ k. k.0.0.items) key

abbrev pub known_value : KnownCertificate → KnownValue
known_value k = ((k.index, k.element.now.0.items), (certificate_head_value k.head, key_octets k.key))

-- it has that issuer and that serial number, or that identifier of its key
abbrev pub IsKnownAs : signer_identifier.Value → KnownValue → Type 0
IsKnownAs (inl i) k = IsNamedBy (inl i) k.1.0
IsKnownAs (inr key) k = k.1.1 ≡ Some key

-- the identifier of the key, or none where there is none that is read
abbrev pub IsKnownKey : certificate_head.Value → Option Octets → Type 0
IsKnownKey v own = (key : Octets) → (own ≡ Some key) ↔ IsKeyIdOf (rest_of v) (Some key)

-- what is known of that certificate says which signers name it
pub record IsKnownOf (certificate : Numbered) (k : KnownValue) : Type 0 where
  pub same : k.0 ≡ certificate
  pub named : (id : signer_identifier.Value) → IsKnownAs id k ↔ IsSignersAt id certificate

-- what is known of an element, or nothing where it isn't read as a certificate
abbrev pub IsKnownOrNone : Numbered → Option KnownValue → Type 0
IsKnownOrNone certificate None = (id : signer_identifier.Value) → IsSignersAt id certificate → ⊥
IsKnownOrNone certificate (Some k) = IsKnownOf certificate k

-- the first among what is known is the first among the certificates, whoever is the signer
abbrev pub AreKnownOf : List Numbered → List KnownValue → Type 0
AreKnownOf certificates known = (id : signer_identifier.Value) (found : Option KnownValue) → IsFirst (IsKnownAs id) known found → IsFirst (IsSignersAt id) certificates (option_value (λ k. k.0) found)

-- none or one
abbrev pub listed : Option KnownValue → List KnownValue
listed None = []
listed (Some k) = k ∷ []

-- one more is known, or none where the element isn't read
abbrev pub IsAppended : Numbered → List KnownValue → List KnownValue → Type 0
IsAppended certificate old new = (more : Option KnownValue) × IsKnownOrNone certificate more × (new ≡ old ++ listed more)

-- the encoding of an issuer, with the octets of a serial number after it
abbrev pub name_octets : name.Value → Octets → Octets
name_octets issuer serial = (SEQUENCE name).format.text issuer ++ serial

-- the octets by which a certificate is named so, if it may be: a signer that names it has the same
abbrev pub octets_by : NamedBy → KnownValue → Option Octets
octets_by Issuer k = Some (name_octets k.1.0.0.1.1.1.0 k.1.0.0.1.0)
octets_by Key k = k.1.1

abbrev pub are_octets : Octets → Option Octets → Bool
are_octets q None = false
are_octets q (Some own) = bytes_eq own q

-- whether these are its octets
abbrev pub is_named : NamedBy → Octets → KnownValue → Bool
is_named by q k = are_octets q (octets_by by k)

-- what a map has under octets
abbrev pub known_at : BTreeMap (Vec ℕ Global) (Bor KnownCertificate) → Octets → Option KnownValue
known_at m q = option_value (λ k. known_value k.now) (get_by (λ k. slice_cmp nat_cmp q k.items) m)

-- what is there, or this where nothing is, if it is to go there
abbrev pub kept : {V : Type 0} → Bool → Option V → V → Option V
kept false there v = there
kept true None v = Some v
kept true (Some x) v = Some x

abbrev pub or_else : {V : Type 0} → Option V → Option V → Option V
or_else None other = other
or_else (Some x) other = Some x
