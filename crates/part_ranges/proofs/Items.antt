-- The ranges of the items of signed data and of enveloped data.
use Rattle.std.specs.Prelude.{◌≡◌, ◌≢◌, ◌↔◌, ◌≤◌, ◌<◌, ℕ, IsTrue, false, List, [], ◌∷◌, length, get_or, map, slice_get, None, Some, Result, Ok, Err, MatchResult}
use Rattle.std.specs.declared.ops.Range.{Range}
use Rattle.std.proofs.Common.{refl, sym, ap, subst, ◌∙◌, arith}
use Rattle.std.proofs.lemmas.List.{get_or-map, length-map}
use Rattle.std.proofs.lemmas.Option.{slice_get-get_or}
use Rattle.asn1_core.specs.Asn1.{ANY}
use Rattle.asn1_core.specs.Der.{each}
use Rattle.asn1_core_element.specs.declared.error.Error.{Error}
use Rattle.asn1_core_element.specs.declared.error.Error.TheVariants.{Memory}
use Rattle.asn1_core_format.specs.Whole.{IsValueOf}
use Rattle.asn1_located.specs.Routes.{enclosed, ◌▸◌}
use Rattle.input_ranges.specs.Failures.{refusal_of}
use Rattle.input_ranges.specs.laws.Failures.{is_refusal, memory_fails}
use Rattle.input_ranges.specs.declared.ranges.Refusal.{Refusal}
use Rattle.located_rows.proofs.RowLaws.{items_found, no_items, range_is}
use Rattle.located_rows.specs.Rows.{AreRows, HasNoList, IsElementRange, IsRangeOf, LeadsTo}
use Rattle.part_ranges.specs.EnvelopeParts.{AreEnvelopedIn, IsAlgorithmAt, IsContentAt, IsEnvelopedRefusal, content_info_of, encrypted_of, recipients_of}
use Rattle.part_ranges.specs.EnvelopeRoutes.{content_info, encrypted_content, encryption_algorithm, recipients}
use Rattle.part_ranges.specs.Enveloped.{enveloped_file, EnvelopedFileValue}
use Rattle.part_ranges.specs.Ranges.{AreCertificatesIn, IsSignedRefusal, choices_of}
use Rattle.part_ranges.specs.SignerAttributes.{ATTRIBUTE, AreAttributesIn, AreAttributesOf, attributes_in, attributes_of, unsigned_of}
use Rattle.part_ranges.specs.declared.attributes.AttributeSet.{AttributeSet}
use Rattle.part_ranges.specs.declared.attributes.AttributeSet.TheVariants.{Signed, Unsigned}
use Rattle.part_ranges.specs.declared.envelope_parts.EnvelopePart.TheVariants.{Recipients, EncryptedContent}
use Rattle.pkcs7_signed_crl.specs.Certificates.{certificate_choices, certificate_set, no_certificates}
use Rattle.signer_ranges.proofs.Between.{attributes_given, of_signer, only_none}
use Rattle.signer_ranges.specs.SignerRoutes.{certificates, signed_attributes, unsigned_attributes}
use Rattle.signer_ranges.specs.Signers.{FileValue, SignerValue, signed_file, signers_of}
use Rattle.x509_pkcs7.specs.RawSigners.{raw_signer_info_value}
use Rattle.x509_pkcs7.specs.declared.raw_signers.RawSignerInfo.{RawSignerInfo}

-- what a test says that fails
pub not_so : {P : Type 0} → (IsTrue false ↔ P) → P → ⊥
not_so i p = let h : IsTrue false = i.1 p in cc

pub of_found : {A : Type 0} {P Q : A → Type 0} → ((a : A) → P a → Q a) → (r : Result A Error) → MatchResult r P (λ e. e ≡ Memory) → MatchResult r Q (λ e. e ≡ Memory)
of_found f (Ok a) p = f a p
of_found f (Err e) p = p

module _ (b : List ℕ) (v : FileValue) where
  pub no_certificate_ranges : choices_of v ≡ [] → (ranges : List (Range ℕ)) → ranges ≡ [] → AreCertificatesIn b v ranges
  no_certificate_ranges e ranges none = no_items certificate_choices.format certificate_choices.law certificates b v (choices_of v) e ranges none

  module _ (is : IsValueOf signed_file 64 b v) where
    given : choices_of v ≢ [] → (j : ℕ) → certificate_set.format.Reads j no_certificates (choices_of v) → ⊥
    given some j r = some (only_none 0xA0 certificate_choices.format certificate_choices.law j (choices_of v) r)

    pub certificates_found : choices_of v ≢ [] → {A : Type 0} (ranges : A → List (Range ℕ)) (r : Result A Error) → MatchResult r (λ a. AreRows IsElementRange certificates.steps 0 b (ranges a)) (λ e. e ≢ Memory → HasNoList certificates.steps 0 b) → MatchResult r (λ a. AreCertificatesIn b v (ranges a)) (λ e. e ≡ Memory)
    certificates_found some ranges r h = items_found certificate_choices.format certificate_choices.law certificates b v (choices_of v) is.reads (v.1.0, (v.1.0, refl, refl), (choices_of v, (refl, given some), refl)) ranges r h

    module _ (index : ℕ) (s : SignerValue) (is_signer : slice_get (signers_of v) index ≡ Some s) where
      unsigned_given : unsigned_of s ≢ [] → unsigned_attributes.IsPart s (unsigned_of s)
      unsigned_given some = (refl, λ j r. some (only_none 0xA1 ATTRIBUTE.format ATTRIBUTE.law j (unsigned_of s) r))

      has_attributes : (set : AttributeSet) → attributes_of set s ≢ [] → (attributes_in set index).IsPart v (attributes_of set s)
      has_attributes Signed some = of_signer b v is.reads index s is_signer (signed_attributes ▸ enclosed 0xA0 (omega arith) (each ATTRIBUTE.format)) (attributes_of Signed s) (attributes_of Signed s, attributes_given b v is.reads index s is_signer some, refl)
      has_attributes Unsigned some = of_signer b v is.reads index s is_signer (unsigned_attributes ▸ enclosed 0xA1 (omega arith) (each ATTRIBUTE.format)) (attributes_of Unsigned s) (attributes_of Unsigned s, unsigned_given some, refl)

      pub no_attribute_ranges : (set : AttributeSet) → attributes_of set s ≡ [] → (ranges : List (Range ℕ)) → ranges ≡ [] → AreAttributesIn set index b v (Some ranges)
      no_attribute_ranges set e ranges none = (s, is_signer, no_items ATTRIBUTE.format ATTRIBUTE.law (attributes_in set index) b v (attributes_of set s) e ranges none)

      pub attributes_found : (set : AttributeSet) → attributes_of set s ≢ [] → {A : Type 0} (ranges : A → List (Range ℕ)) (r : Result A Error) → MatchResult r (λ a. AreRows IsElementRange (attributes_in set index).steps 0 b (ranges a)) (λ e. e ≢ Memory → HasNoList (attributes_in set index).steps 0 b) → MatchResult r (λ a. AreAttributesOf set index b v s (ranges a)) (λ e. e ≡ Memory)
      attributes_found set some ranges r h = items_found ATTRIBUTE.format ATTRIBUTE.law (attributes_in set index) b v (attributes_of set s) is.reads (has_attributes set some) ranges r h

module _ (v : FileValue) (xs : List RawSignerInfo) (is : signers_of v ≡ map raw_signer_info_value xs) (index : ℕ) where
  pub fewer_signers : length xs ≤ index → length (signers_of v) ≤ index
  fewer_signers h = omega (arith, h, ap length is, length-map xs raw_signer_info_value)

  pub signer_at : (x : RawSignerInfo) → index < length xs → x ≡ get_or xs index x → slice_get (signers_of v) index ≡ Some (raw_signer_info_value x)
  signer_at x h e =
      ap (λ ss. slice_get ss index) is
      ∙ slice_get-get_or (map raw_signer_info_value xs) index (raw_signer_info_value x) (omega (arith, h, length-map xs raw_signer_info_value))
      ∙ ap Some (get_or-map raw_signer_info_value xs index x (raw_signer_info_value x) h ∙ ap raw_signer_info_value (sym e))

module _ (b : List ℕ) (v : EnvelopedFileValue) (is : IsValueOf enveloped_file 64 b v) where
  pub recipients_found : {A : Type 0} (ranges : A → List (Range ℕ)) (r : Result A Error) → MatchResult r (λ a. AreRows IsElementRange recipients.steps 0 b (ranges a)) (λ e. e ≢ Memory → HasNoList recipients.steps 0 b) → MatchResult r (λ a. AreEnvelopedIn Recipients b v (ranges a)) (λ e. e ≡ Memory)
  recipients_found ranges r h = items_found ANY.format ANY.law recipients b v (recipients_of v) is.reads (v.1.0, (v.1.0, refl, refl), (recipients_of v, refl, refl)) ranges r h

  content_info_part : content_info.IsPart v (content_info_of v)
  content_info_part = (v.1.0, (v.1.0, refl, refl), refl)

  pub algorithm_is : (range : Range ℕ) → LeadsTo encryption_algorithm.steps 0 b range.start range.end → (ranges : List (Range ℕ)) → ranges ≡ range ∷ [] → IsAlgorithmAt b v ranges
  algorithm_is range leads ranges only = record {
    range = range;
    only = only;
    at = range_is encryption_algorithm 64 b v is.reads (content_info_of v).1.0 (content_info_of v, content_info_part, refl) range.start range.end leads;
  }

  pub octets_are : (octets : List ℕ) → encrypted_of v ≡ Some octets → (range : Range ℕ) → LeadsTo encrypted_content.steps 0 b range.start range.end → (ranges : List (Range ℕ)) → ranges ≡ range ∷ [] → AreEnvelopedIn EncryptedContent b v ranges
  octets_are octets e range leads ranges only =
      let at : IsRangeOf encrypted_content 64 b v octets range.start range.end = range_is encrypted_content 64 b v is.reads octets (content_info_of v, content_info_part, (octets, e, refl)) range.start range.end leads in
      subst (λ o. IsContentAt b v o ranges) (sym e) (record { range = range; only = only; at = at })

  pub no_octets : encrypted_of v ≡ None → (ranges : List (Range ℕ)) → ranges ≡ [] → AreEnvelopedIn EncryptedContent b v ranges
  no_octets e ranges none = subst (λ o. IsContentAt b v o ranges) (sym e) none

pub signed_refused : (b : List ℕ) (e : Error) (r : Refusal) → e ≡ Memory → r ≡ refusal_of e → IsSignedRefusal b r
signed_refused b e r m g = is_refusal signed_file b ⊥ e r g (memory_fails ⊥ e m)

pub enveloped_refused : (b : List ℕ) (e : Error) (r : Refusal) → e ≡ Memory → r ≡ refusal_of e → IsEnvelopedRefusal b r
enveloped_refused b e r m g = is_refusal enveloped_file b ⊥ e r g (memory_fails ⊥ e m)
