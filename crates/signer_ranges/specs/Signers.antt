-- What a verification of a signer needs, as ranges of the file (RFC 5652, 5.3 to 5.6, 11.1 and 11.2).
use Rattle.std.specs.Prelude.{◌≡◌, ◌≢◌, ◌⊎◌, ℕ, ◌+◌, List, [], ◌∷◌, ◌++◌, length, take, drop, map, slice_get, Option, None, Some, IfSome}
use Rattle.std.specs.List.{enumerate_from}
use Rattle.std.specs.declared.ops.Range.{Range}
use Rattle.asn1_core.specs.Asn1.{SEQUENCE}
use Rattle.asn1_core.specs.Der.{Format, object_identifier, octet_string, ElementOctets, Octets, OidOctets}
use Rattle.asn1_core_format.specs.Whole.{IsValueOf}
use Rattle.asn1_core_oid.specs.Known.{data_oid}
use Rattle.asn1_located.specs.Places.{Walk}
use Rattle.asn1_located.specs.Routes.{◌▸◌}
use Rattle.input_ranges.specs.Failures.{IsRefusalOf}
use Rattle.input_ranges.specs.Ranges.{IsAt, IsAtOrNone}
use Rattle.input_ranges.specs.declared.ranges.Refusal.{Refusal}
use Rattle.located_rows.specs.Rows.{AllAt, IsRangeOf}
use Rattle.pkcs7_attributes.specs.Attributes.{attributes}
use Rattle.pkcs7_attributes.specs.NamedAttributes.{content_type_oid, message_digest_oid}
use Rattle.pkcs7_signed_crl.specs.SignerParts.{signer_identifier}
use Rattle.pkcs7_verifier.specs.Matches.{choice_octets, IsSigners, IsFirst}
use Rattle.x509_base.specs.Algorithms.{algorithm_identifier}
use Rattle.x509_base.specs.AttributesByOid.{with_oid, IsOnlyOf}
use Rattle.x509_base.specs.Names.{attribute}
use Rattle.x509_pkcs7.specs.RawContents.{raw_encapsulated_content_info}
use Rattle.x509_pkcs7.specs.RawHashed.{content_of, IsRawHashed}
use Rattle.signer_ranges.specs.SignerRoutes.{certificate, content, digest_algorithm, message_digest, signature, signature_algorithm, signed_attributes, signer}
use Rattle.signer_ranges.specs.declared.ranges.SignedRanges.{SignedRanges}
use Rattle.signer_ranges.specs.declared.ranges.SignerRanges.{SignerRanges}
pub use Rattle.signer_ranges.specs.SignerRoutes.{FileValue, SignerValue, signed_file}

abbrev pub content_info_of : FileValue → raw_encapsulated_content_info.Value
content_info_of v = v.1.0.1.1.0

abbrev pub certificates_of : FileValue → List ElementOctets
certificates_of v = map choice_octets v.1.0.1.1.1.0

abbrev pub signers_of : FileValue → List SignerValue
signers_of v = v.1.0.1.1.1.1.1.0

abbrev pub sid_of : SignerValue → signer_identifier.Value
sid_of s = s.1.0

abbrev pub digest_algorithm_of : SignerValue → algorithm_identifier.Value
digest_algorithm_of s = s.1.1.0

abbrev pub signed_of : SignerValue → List attribute.Value
signed_of s = s.1.1.1.0

abbrev pub signature_algorithm_of : SignerValue → algorithm_identifier.Value
signature_algorithm_of s = s.1.1.1.1.0

abbrev pub signature_of : SignerValue → Octets
signature_of s = s.1.1.1.1.1.0

-- there is one contentType, that of the content (RFC 5652, 11.1), and one messageDigest, which is this (11.2), each with one
-- value
pub record Signs (attrs : List attribute.Value) (content_type : OidOctets) (digest : Octets) : Type 0 where
  pub content : IsOnlyOf object_identifier (with_oid content_type_oid attrs) (Some content_type)
  pub message : IsOnlyOf octet_string (with_oid message_digest_oid attrs) (Some digest)

-- or there are none of that kind
abbrev pub SignsOrNone : List attribute.Value → OidOctets → Option Octets → Type 0
SignsOrNone attrs content_type None = (digest : Octets) → Signs attrs content_type digest → ⊥
SignsOrNone attrs content_type (Some digest) = Signs attrs content_type digest

-- the only one, or none where there is none or several
abbrev pub OnlyOrNone : {V : Type 0} → Format V → List attribute.Value → Option V → Type 0
OnlyOrNone {V} F found None = (v : V) → IsOnlyOf F found (Some v) → ⊥
OnlyOrNone F found (Some v) = IsOnlyOf F found (Some v)

-- signed attributes in the file, under the tag [0], and the digest among them
pub record AreSignedAt (b : List ℕ) (attrs : List attribute.Value) (content_type : OidOctets) (r : SignedRanges) : Type 0 where
  pub attributes : IsAt b (attributes.format.text attrs) r.attributes.start r.attributes.end
  pub digest : Octets
  pub signs : Signs attrs content_type digest
  pub message_digest : IsAt b digest r.message_digest.start r.message_digest.end

-- none where there are no signed attributes, as only content of the type id-data allows (RFC 5652, 5.3)
abbrev pub AreSignedOrNone : List ℕ → List attribute.Value → OidOctets → Option SignedRanges → Type 0
AreSignedOrNone b attrs content_type None = (attrs ≡ []) × (content_type ≡ data_oid)
AreSignedOrNone b attrs content_type (Some r) = AreSignedAt b attrs content_type r

abbrev pub algorithm_text : algorithm_identifier.Value → List ℕ
algorithm_text a = (SEQUENCE algorithm_identifier).format.text a

-- a set [0] of no signed attributes is in the input between the algorithms of a signer. RFC 5652 (5.3) asks for one or more
pub record HasEmptySet (b : List ℕ) (s : SignerValue) : Type 0 where
  pub start : ℕ
  pub end : ℕ
  pub is : IsAt b (algorithm_text (digest_algorithm_of s) ++ ((0xA0 ∷ 0x00 ∷ []) ++ algorithm_text (signature_algorithm_of s))) start end

-- the signed attributes lack one of the two, have it several times, or with no value or several, or the contentType is
-- another than the content's
abbrev pub SignWrongly : List attribute.Value → OidOctets → Type 0
SignWrongly attrs content_type = (attrs ≢ []) × ((digest : Octets) → Signs attrs content_type digest → ⊥)

-- or they are an empty set, which has the same value as none, or none, and the content is of another type than id-data
abbrev pub AreBroken : List ℕ → SignerValue → OidOctets → Type 0
AreBroken b s content_type = SignWrongly (signed_of s) content_type ⊎ ((signed_of s ≡ []) × (HasEmptySet b s ⊎ (content_type ≢ data_oid)))

-- the signature's algorithm begins where the digest's ends, or where the signed attributes end, which begin there
abbrev pub AreAdjacent : Option SignedRanges → Range ℕ → Range ℕ → Type 0
AreAdjacent None digest signature = signature.start ≡ digest.end
AreAdjacent (Some r) digest signature = (r.attributes.start ≡ digest.end) × (signature.start ≡ r.attributes.end)

-- the octets of the content that are hashed, or none where the signature is detached
abbrev pub IsContentAt : List ℕ → FileValue → Option (Range ℕ) → Type 0
IsContentAt b v r = (octets : Option Octets) × IsRawHashed (content_of (content_info_of v)) octets × IsAtOrNone b octets r

-- the first certificate that a signer names, or none where it names none of them
abbrev pub IsCertificateAt : List ℕ → FileValue → signer_identifier.Value → Option (Range ℕ) → Type 0
IsCertificateAt b v id r = (octets : Option ElementOctets) × IsFirst (IsSigners id) (certificates_of v) octets × IsAtOrNone b octets r

-- all ranges of a signer s of signed data v
pub record AreRangesOf (b : List ℕ) (v : FileValue) (s : SignerValue) (r : SignerRanges) : Type 0 where
  pub signed : AreSignedOrNone b (signed_of s) (content_info_of v).0 r.signed
  pub content : IsContentAt b v r.content
  pub digest_algorithm : IsAt b ((SEQUENCE algorithm_identifier).format.text (digest_algorithm_of s)) r.digest_algorithm.start r.digest_algorithm.end
  pub signature_algorithm : IsAt b ((SEQUENCE algorithm_identifier).format.text (signature_algorithm_of s)) r.signature_algorithm.start r.signature_algorithm.end
  pub adjacent : AreAdjacent r.signed r.digest_algorithm r.signature_algorithm
  pub signature : IsAt b (signature_of s) r.signature.start r.signature.end
  pub certificate : IsCertificateAt b v (sid_of s) r.certificate

-- the signer's signed attributes aren't as they have to be
abbrev pub BreaksRules : List ℕ → FileValue → SignerValue → Type 0
BreaksRules b v s = AreBroken b s (content_info_of v).0

abbrev pub AreRangesOrNone : List ℕ → FileValue → SignerValue → Option SignerRanges → Type 0
AreRangesOrNone b v s None = BreaksRules b v s
AreRangesOrNone b v s (Some r) = AreRangesOf b v s r

-- the same for each of some signers, in their order
abbrev pub AreRangesOfAll : List ℕ → FileValue → List SignerValue → List (Option SignerRanges) → Type 0
AreRangesOfAll b v [] found = found ≡ []
AreRangesOfAll b v (s ∷ ss) [] = ⊥
AreRangesOfAll b v (s ∷ ss) (r ∷ found) = AreRangesOrNone b v s r × AreRangesOfAll b v ss found

-- signed attributes, with the tag [0], and messageDigest among them, in their places in the signer i
pub record AreSignedPlaces (b : List ℕ) (v : FileValue) (i : ℕ) (s : SignerValue) (r : SignedRanges) : Type 0 where
  pub attributes_at : IsRangeOf (signer i ▸ signed_attributes) 64 b v (signed_of s) r.attributes.start r.attributes.end
  -- which attribute the digest is
  pub index : ℕ
  pub digest : Octets
  pub digest_at : IsRangeOf (signer i ▸ message_digest index) 64 b v digest r.message_digest.start r.message_digest.end

-- the contents octets of the content, in their place
abbrev pub IsContentPlace : List ℕ → FileValue → Range ℕ → Type 0
IsContentPlace b v r = (octets : Octets) × IsRangeOf content 64 b v octets r.start r.end

-- the first certificate that a signer names, in its place
abbrev pub IsCertificatePlace : List ℕ → FileValue → signer_identifier.Value → Range ℕ → Type 0
IsCertificatePlace b v id r = (c : ℕ × ElementOctets) × IsFirst (λ x. IsSigners id x.1) (enumerate_from 0 (certificates_of v)) (Some c) × IsRangeOf (certificate c.0) 64 b v c.1 r.start r.end

-- each range of the signer with that index is the place of its part
pub record ArePlacesOf (b : List ℕ) (v : FileValue) (i : ℕ) (r : SignerRanges) : Type 0 where
  pub value : SignerValue
  pub is_value : slice_get (signers_of v) i ≡ Some value
  pub signed_at : IfSome r.signed (λ s. AreSignedPlaces b v i value s)
  pub content_at : IfSome r.content (λ c. IsContentPlace b v c)
  pub digest_algorithm_at : IsRangeOf (signer i ▸ digest_algorithm) 64 b v (digest_algorithm_of value) r.digest_algorithm.start r.digest_algorithm.end
  pub signature_algorithm_at : IsRangeOf (signer i ▸ signature_algorithm) 64 b v (signature_algorithm_of value) r.signature_algorithm.start r.signature_algorithm.end
  pub signature_at : IsRangeOf (signer i ▸ signature) 64 b v (signature_of value) r.signature.start r.signature.end
  pub certificate_at : IfSome r.certificate (λ c. IsCertificatePlace b v (sid_of value) c)

-- in the place of the signed attributes of the signer i is an empty set, if it has none and the content is id-data
pub record IsEmptyPlace (b : List ℕ) (v : FileValue) (i : ℕ) : Type 0 where
  pub value : SignerValue
  pub is_value : slice_get (signers_of v) i ≡ Some value
  pub empty_at : signed_of value ≡ [] → (content_info_of v).0 ≡ data_oid → (n : ℕ) × Walk (signer i ▸ signed_attributes).steps 0 b n (0xA0 ∷ 0x00 ∷ [])

abbrev pub ArePlacesOrNone : List ℕ → FileValue → ℕ → Option SignerRanges → Type 0
ArePlacesOrNone b v i None = IsEmptyPlace b v i
ArePlacesOrNone b v i (Some r) = ArePlacesOf b v i r

-- how many signers signed data has, and the ranges of at most `most` of them from one on, which are the places of their parts
pub record IsPartOf (b : List ℕ) (v : FileValue) (first most count : ℕ) (found : List (Option SignerRanges)) : Type 0 where
  pub all : count ≡ length (signers_of v)
  pub ranges : AreRangesOfAll b v (take most (drop first (signers_of v))) found
  pub places : AllAt (λ i r. ArePlacesOrNone b v (first + i) r) found

-- the same of the value of the input, the only one
pub record AreFound (b : List ℕ) (first most count : ℕ) (found : List (Option SignerRanges)) : Type 0 where
  pub value : FileValue
  pub is_value : IsValueOf signed_file 64 b value
  pub part : IsPartOf b value first most count found

-- signed data lacks no range: each part has its place
abbrev pub HasNoRange : List ℕ → ℕ → ℕ → Type 0
HasNoRange b first most = ⊥

-- why there are none: the input is no signed data, or memory was refused
abbrev pub IsRefusal : List ℕ → Type 0 → Refusal → Type 0
IsRefusal b Lacks = IsRefusalOf signed_file b Lacks
