-- The extensions of a certificate, the identifier of its key, and all its ranges.
use Rattle.std.specs.Prelude.{◌≡◌, ◌≢◌, ℕ, List, Option, None, Some, Result, Ok, Err, MatchResult}
use Rattle.std.specs.List.{find}
use Rattle.std.specs.declared.ops.Range.{Range}
use Rattle.std.proofs.Common.{refl, sym, ap, ◌∙◌, subst}
use Rattle.asn1_core.specs.Der.{ElementOctets, HasNoValue, IsValueOf, Octets, octet_string}
use Rattle.asn1_core_element.specs.declared.error.Error.{Error}
use Rattle.asn1_core_element.specs.declared.error.Error.TheVariants.{Memory}
use Rattle.certificate_ranges.proofs.Indices.{skipped_to, some_none, some_same}
use Rattle.certificate_ranges.proofs.PartPlaces.{part_at}
use Rattle.certificate_ranges.specs.CertificateRoutes.{element_after_key, in_element, in_extension}
use Rattle.certificate_ranges.specs.Certificates.{CertificateValue, certificate}
use Rattle.certificate_ranges.specs.Indices.{IsFirstAt}
use Rattle.certificate_ranges.specs.Ranges.{AreCertificateRanges, AreExtensionsAt, AreRangesOf, FindsIdentifier, IsKeyIdentifierAt, IsRangeIf, IsRefusal, is_key_identifier}
use Rattle.certificate_ranges.specs.declared.ranges.CertificateRanges.{CertificateRanges}
use Rattle.input_ranges.specs.Failures.{refusal_of}
use Rattle.input_ranges.specs.laws.Failures.{is_refusal, memory_fails}
use Rattle.input_ranges.specs.declared.ranges.Refusal.{Refusal}
use Rattle.pkcs7_verifier.specs.KeyIdentifiers.{AreExtensionsOf, IsKeyIdOf, explicit_extensions, extension_with, has_tag, rest_of, subject_key_identifier_oid}
use Rattle.pkcs7_verifier.specs.laws.KeyIdentifiers.{lawful_explicit_extensions}
use Rattle.x509_base.specs.Extensions.{extension}

pub extensions_at : (b : List ℕ) (v : CertificateValue) (rest : List ElementOctets) (i : ℕ) (r : Range ℕ) → IsValueOf certificate 64 b v → rest ≡ rest_of v → (x : ElementOctets) × IsFirstAt (has_tag 0xA3) rest i x → IsRangeIf (in_element i).steps b r → AreExtensionsAt b v (Some r)
extensions_at b v rest i r is g first at =
    let x = first.0 in
    let here : IsFirstAt (has_tag 0xA3) (rest_of v) i x = subst (λ l. IsFirstAt (has_tag 0xA3) l i x) g first.1 in
    let s = skipped_to (has_tag 0xA3) (rest_of v) i x here in
    let a = (element_after_key i).found 64 v x (v.0, refl, s) 0 b is.reads in
    let element = a.3.1 in
    (i, x, here, part_at (in_element i) element.contents (x, (v.0, refl, s), (element.tag, element.is_tag, sym a.3.0 ∙ element.is)) is at)

pub identifier_at : (b : List ℕ) (i : ℕ) (es : List extension.Value) (j : ℕ) (one : extension.Value) (octets key : List ℕ) (r : Range ℕ) → IsFirstAt is_key_identifier es j one → octets ≡ one.1.1.0 → octet_string.Reads 64 octets key → IsRangeIf (in_extension i j).steps b r → FindsIdentifier b i es (Some r)
identifier_at b i es j one octets key r first g read at v x is here reads =
    let s = skipped_to (has_tag 0xA3) (rest_of v) i x here in
    let t = skipped_to is_key_identifier es j one first in
    let is_key : octet_string.Reads 64 one.1.1.0 key = subst (λ y. octet_string.Reads 64 y key) g read in
    record {
      element = x;
      element_index = i;
      is_first = here;
      all = es;
      reads = reads;
      one = one;
      one_index = j;
      is_first_one = first;
      at = part_at (in_extension i j) key (x, (v.0, refl, s), (es, reads, (es, refl, (one, t, (one.1.1.0, refl, (one.1.1.0, refl, (key, is_key, refl))))))) is at;
    }

module _ (rest : List ElementOctets) (es : List extension.Value) (a : AreExtensionsOf rest (Some es)) where
  -- a certificate has one list of extensions
  one_list : (fs : List extension.Value) → AreExtensionsOf rest (Some fs) → fs ≡ es
  one_list fs b = lawful_explicit_extensions.components.one_value 64 a.0 fs es (subst (λ x. explicit_extensions.Reads 64 x fs) (some_same b.1 a.1) b.2) a.2

  same_extension : (key : Octets) (k : IsKeyIdOf rest (Some key)) → extension_with subject_key_identifier_oid es ≡ Some k.2
  same_extension key k = sym (ap (extension_with subject_key_identifier_oid) (one_list k.0 k.1)) ∙ k.3

  no_extension : extension_with subject_key_identifier_oid es ≡ None → (key : Octets) → IsKeyIdOf rest (Some key) → ⊥
  no_extension none key k = some_none (same_extension key k) none

  no_octets : (one : extension.Value) (octets : List ℕ) (e : Error) → extension_with subject_key_identifier_oid es ≡ Some one → octets ≡ one.1.1.0 → HasNoValue octet_string 64 octets e → e ≢ Memory → (key : Octets) → IsKeyIdOf rest (Some key) → ⊥
  no_octets one octets e first g h m key k =
      let same : k.2 ≡ one = some_same (same_extension key k) first in
      h.none m key (subst (λ y. octet_string.Reads 64 y key) (ap (λ y. y.1.1.0) same ∙ sym g) k.4)

-- what the element holds, of that certificate
holds : (v : CertificateValue) (i : ℕ) (x : ElementOctets) (es : List extension.Value) → IsFirstAt (has_tag 0xA3) (rest_of v) i x → explicit_extensions.Reads 64 x es → AreExtensionsOf (rest_of v) (Some es)
holds v i x es here reads = (x, here.1, reads)

pub no_identifier : (b : List ℕ) (i : ℕ) (es : List extension.Value) → extension_with subject_key_identifier_oid es ≡ None → FindsIdentifier b i es None
no_identifier b i es none v x is here reads = no_extension (rest_of v) es (holds v i x es here reads) none

pub unread_identifier : (b : List ℕ) (i : ℕ) (es : List extension.Value) (j : ℕ) (one : extension.Value) (octets : List ℕ) (e : Error) → IsFirstAt is_key_identifier es j one → octets ≡ one.1.1.0 → HasNoValue octet_string 64 octets e → e ≢ Memory → FindsIdentifier b i es None
unread_identifier b i es j one octets e first g h m v x is here reads = no_octets (rest_of v) es (holds v i x es here reads) one octets e first.1 g h m

pub identifier_given : (b : List ℕ) (v : CertificateValue) (rest : List ElementOctets) (i : ℕ) (es fs : List extension.Value) (r : Result (Option (Range ℕ)) Error) → IsValueOf certificate 64 b v → rest ≡ rest_of v → (x : ElementOctets) × IsFirstAt (has_tag 0xA3) rest i x → AreExtensionsOf (rest_of v) (Some es) → fs ≡ es → MatchResult r (λ o. FindsIdentifier b i fs o) (λ e. e ≡ Memory) → MatchResult r (λ o. IsKeyIdentifierAt b v o) (λ e. e ≡ Memory)
identifier_given b v rest i es fs (Ok o) is g first a f h =
    let x = first.0 in
    let here : IsFirstAt (has_tag 0xA3) (rest_of v) i x = subst (λ l. IsFirstAt (has_tag 0xA3) l i x) g first.1 in
    let read : explicit_extensions.Reads 64 x es = subst (λ y. explicit_extensions.Reads 64 y es) (some_same a.1 here.1) a.2 in
    h v x is here (subst (λ l. explicit_extensions.Reads 64 x l) (sym f) read)
identifier_given b v rest i es fs (Err e) is g first a f h = h

-- without an element, or without extensions that are read, there is no identifier
pub no_element : (rest : List ElementOctets) → find (has_tag 0xA3) rest ≡ None → (key : Octets) → IsKeyIdOf rest (Some key) → ⊥
no_element rest none key k = some_none k.1.1 none

pub unread_extensions : (rest : List ElementOctets) → ((es : List extension.Value) → AreExtensionsOf rest (Some es) → ⊥) → (key : Octets) → IsKeyIdOf rest (Some key) → ⊥
unread_extensions rest none key k = none k.0 k.1

pub are_found : (b : List ℕ) (v : CertificateValue) (r : CertificateRanges) → IsValueOf certificate 64 b v → AreRangesOf b v r → AreCertificateRanges b r
are_found b v r is are = record { value = v; is_value = is; are = are }

pub refused : (b : List ℕ) (e : Error) (r : Refusal) → e ≡ Memory → r ≡ refusal_of e → IsRefusal b r
refused b e r m g = is_refusal certificate b ⊥ e r g (memory_fails ⊥ e m)
