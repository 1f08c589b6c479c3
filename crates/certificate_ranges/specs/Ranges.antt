-- Where the parts of a certificate are in an input that is one.
use Rattle.std.specs.Prelude.{◌≡◌, ◌≤◌, ◌+◌, ℕ, Bool, List, length, Option, None, Some, slice_range}
use Rattle.std.specs.List.{find}
use Rattle.std.specs.Str.{bytes_eq}
use Rattle.std.specs.declared.ops.Range.{Range}
use Rattle.asn1_core.specs.Der.{ElementOctets, IsValueOf, Octets}
use Rattle.asn1_located.specs.Places.{IsPlaceOf, IsRangeAt, Reading, Route, Walk}
use Rattle.asn1_located.specs.declared.walks.Step.{Step}
use Rattle.certificate_ranges.specs.CertificateRoutes.{in_element, in_extension, issuer, key_algorithm, key_bits, key_info, key_parameters, read_key_info, serial_number, subject, validity}
use Rattle.certificate_ranges.specs.Certificates.{CertificateValue, certificate}
use Rattle.certificate_ranges.specs.Indices.{IsFirstAt}
use Rattle.certificate_ranges.specs.declared.ranges.CertificateRanges.{CertificateRanges}
use Rattle.certificate_ranges.specs.declared.ranges.KeyRanges.{KeyRanges}
use Rattle.input_ranges.specs.Failures.{IsRefusalOf}
use Rattle.input_ranges.specs.declared.ranges.Refusal.{Refusal}
use Rattle.pkcs7_verifier.specs.KeyIdentifiers.{IsKeyIdOf, explicit_extensions, has_tag, rest_of, subject_key_identifier_oid}
use Rattle.x509_base.specs.Extensions.{extension}

-- the range to which steps lead, if they lead anywhere
abbrev pub IsRangeIf : List Step → List ℕ → Range ℕ → Type 0
IsRangeIf steps b r = (n : ℕ) (y : List ℕ) → Walk steps 0 b n y → IsRangeAt steps b r.start r.end

-- the octets of the input b in that range are a part of its value v, in that part's own place
pub record IsPartAt {V W : Type 0} {R : Reading V} {S : Reading W} (route : Route R S) (b : List ℕ) (v : V) (r : Range ℕ) : Type 0 where
  pub part : W
  pub place : IsPlaceOf route 64 b v part r.start (slice_range b r.start r.end)
  pub inside : (r.start ≤ r.end) × (r.end ≤ length b)

-- the value has no such part
abbrev pub HasNoPart : {V W : Type 0} {R : Reading V} {S : Reading W} → Route R S → V → Type 0
HasNoPart {V} {W} {R} {S} route v = (w : W) → route.IsPart v w → ⊥

-- or it has none
abbrev pub IsPartOrNone : {V W : Type 0} {R : Reading V} {S : Reading W} → Route R S → List ℕ → V → Option (Range ℕ) → Type 0
IsPartOrNone route b v None = HasNoPart route v
IsPartOrNone route b v (Some r) = IsPartAt route b v r

-- the octets of the key: those of subjectPublicKey, a BIT STRING, after the count of unused bits, the first of its contents octets
pub record IsKeyAt (b : List ℕ) (v : CertificateValue) (r : Range ℕ) : Type 0 where
  pub contents : Range ℕ
  pub are_contents : IsPartAt key_bits b v contents
  pub after_count : r.start ≡ contents.start + 1
  pub to_the_end : r.end ≡ contents.end
  pub ordered : r.start ≤ r.end

-- the parts of the key
pub record AreKeyRanges (b : List ℕ) (v : CertificateValue) (r : KeyRanges) : Type 0 where
  pub algorithm_at : IsPartAt key_algorithm b v r.algorithm
  pub parameters_at : IsPartOrNone key_parameters b v r.parameters
  pub key_at : IsKeyAt b v r.public_key

-- or none, where subjectPublicKeyInfo reads as no SubjectPublicKeyInfo
abbrev pub AreKeyRangesOrNone : List ℕ → CertificateValue → Option KeyRanges → Type 0
AreKeyRangesOrNone b v None = HasNoPart read_key_info v
AreKeyRangesOrNone b v (Some r) = AreKeyRanges b v r

-- what is in the first element under [3] after the key, or none where there is no such element
abbrev pub AreExtensionsAt : List ℕ → CertificateValue → Option (Range ℕ) → Type 0
AreExtensionsAt b v None = find (has_tag 0xA3) (rest_of v) ≡ None
AreExtensionsAt b v (Some r) = (i : ℕ) × (x : ElementOctets) × IsFirstAt (has_tag 0xA3) (rest_of v) i x × IsPartAt (in_element i) b v r

-- an extension is subjectKeyIdentifier
abbrev pub is_key_identifier : extension.Value → Bool
is_key_identifier e = bytes_eq e.0 subject_key_identifier_oid

-- the octets of the identifier: of the first such extension in that element
pub record IsKeyIdentifier (b : List ℕ) (v : CertificateValue) (r : Range ℕ) : Type 0 where
  pub element : ElementOctets
  pub element_index : ℕ
  pub is_first : IsFirstAt (has_tag 0xA3) (rest_of v) element_index element
  pub all : List extension.Value
  pub reads : explicit_extensions.Reads 64 element all
  pub one : extension.Value
  pub one_index : ℕ
  pub is_first_one : IsFirstAt is_key_identifier all one_index one
  pub at : IsPartAt (in_extension element_index one_index) b v r

-- or none, where the certificate has no identifier that reads as one
abbrev pub IsKeyIdentifierAt : List ℕ → CertificateValue → Option (Range ℕ) → Type 0
IsKeyIdentifierAt b v None = (key : Octets) → IsKeyIdOf (rest_of v) (Some key) → ⊥
IsKeyIdentifierAt b v (Some r) = IsKeyIdentifier b v r

-- the identifier in the element with index i, which holds these extensions
abbrev pub FindsIdentifier : List ℕ → ℕ → List extension.Value → Option (Range ℕ) → Type 0
FindsIdentifier b i es r = (v : CertificateValue) (x : ElementOctets) → IsValueOf certificate 64 b v → IsFirstAt (has_tag 0xA3) (rest_of v) i x → explicit_extensions.Reads 64 x es → IsKeyIdentifierAt b v r

-- all ranges of a certificate v
pub record AreRangesOf (b : List ℕ) (v : CertificateValue) (r : CertificateRanges) : Type 0 where
  pub serial_number_at : IsPartAt serial_number b v r.serial_number
  pub issuer_at : IsPartAt issuer b v r.issuer
  pub validity_at : IsPartAt validity b v r.validity
  pub subject_at : IsPartAt subject b v r.subject
  pub key_info_at : IsPartAt key_info b v r.subject_public_key_info
  pub key_at : AreKeyRangesOrNone b v r.key
  pub extensions_at : AreExtensionsAt b v r.extensions
  pub key_identifier_at : IsKeyIdentifierAt b v r.key_identifier

-- the same of the value of the input, the only one
pub record AreCertificateRanges (b : List ℕ) (r : CertificateRanges) : Type 0 where
  pub value : CertificateValue
  pub is_value : IsValueOf certificate 64 b value
  pub are : AreRangesOf b value r

-- why there are none: the input is no certificate, or memory was refused
abbrev pub IsRefusal : List ℕ → Refusal → Type 0
IsRefusal b = IsRefusalOf certificate b ⊥
