-- The rows of signers and of certificates, and the content, of an input that reads as signed data.
use Rattle.std.specs.Prelude.{◌≡◌, ◌≢◌, ◌<◌, ℕ, zero, suc, List, [], ◌∷◌, ◌++◌, length, get_or, map, slice_get, None, Some, Result, Ok, Err, MatchResult}
use Rattle.std.specs.declared.ops.Range.{Range}
use Rattle.std.proofs.Common.{refl, sym, ap, ◌∙◌, subst, arith}
use Rattle.std.proofs.lemmas.List.{length-map}
use Rattle.asn1_core.specs.Der.{ElementOctets, Octets}
use Rattle.asn1_core_element.specs.declared.error.Error.{Error}
use Rattle.asn1_core_element.specs.declared.error.Error.TheVariants.{Memory}
use Rattle.asn1_core_format.specs.Whole.{IsValueOf}
use Rattle.asn1_located.specs.Places.{Walk}
use Rattle.asn1_located.specs.Routes.{◌▸◌}
use Rattle.asn1_located.specs.declared.walks.Step.{Step}
use Rattle.asn1_located.specs.declared.walks.Step.TheVariants.{Element, Nth}
use Rattle.located_rows.proofs.RowLaws.{as_many, has_list, leads_after, only_memory, range_is, skips_to}
use Rattle.located_rows.specs.Rows.{AreRows, HasNoList, IsRangeOf, LeadsTo}
use Rattle.pkcs7_signed_crl.specs.Certificates.{certificate_choices, certificate_set, no_certificates}
use Rattle.pkcs7_verifier.specs.Hashed.{AreContentsOf}
use Rattle.pkcs7_verifier.specs.Matches.{choice_octets}
use Rattle.signer_ranges.proofs.Between.{are_between, attributes_given, of_signer, only_none}
use Rattle.signer_ranges.proofs.InRanges.{octets_at}
use Rattle.signer_ranges.specs.SignerRoutes.{SIGNER, certificate, certificates, content, content_element, digest_algorithm, signature, signature_algorithm, signed_attributes, signer}
use Rattle.signer_ranges.specs.laws.SignerRoutes.{signers}
use Rattle.signer_ranges.specs.SignerRows.{AreCertificateRows, AreParts, AreSignerRows, IsCertificateRow, IsContentFound, IsSignerRow}
use Rattle.signer_ranges.specs.Signers.{FileValue, SignerValue, certificates_of, content_info_of, digest_algorithm_of, signature_algorithm_of, signature_of, signed_file, signed_of, signers_of}
use Rattle.signer_ranges.specs.declared.parts.CertificateRow.{CertificateRow}
use Rattle.signer_ranges.specs.declared.parts.SignerRow.{SignerRow}
use Rattle.x509_pkcs7.specs.RawHashed.{content_of, IsRawHashed}

-- the item of which the function gives the item with an index
from_map : {X Y : Type 0} (f : X → Y) (xs : List X) (j : ℕ) (y : Y) → slice_get (map f xs) j ≡ Some y → (x : X) × (slice_get xs j ≡ Some x) × (y ≡ f x)
from_map f [] j y e = absurd (let n : None ≡ Some y = e in cc)
from_map f (x ∷ xs) zero y e = let same : Some (f x) ≡ Some y = e in let is : y ≡ f x = cc in (x, refl, is)
from_map f (x ∷ xs) (suc j) y e = from_map f xs j y e

some_item : {X : Type 0} (xs : List X) (j : ℕ) (x : X) → slice_get xs j ≡ Some x → xs ≢ []
some_item xs j x e n = let f : None ≡ Some x = sym (ap (λ ys. slice_get ys j) n) ∙ e in cc

module _ (b : List ℕ) (v : FileValue) (is : IsValueOf signed_file 64 b v) where
  module _ (i n : ℕ) (y : List ℕ) (walk : Walk (signers.steps ++ Nth i ∷ []) 0 b n y) (row : SignerRow) (r : IsSignerRow n y row) (s : SignerValue) (is_signer : slice_get (signers_of v) i ≡ Some s) where
    abbrev to_signers : List Step
    to_signers = signers.steps ++ Nth i ∷ []

    digest_leads : LeadsTo (signer i ▸ digest_algorithm).steps 0 b row.digest_algorithm.start row.digest_algorithm.end
    digest_leads = leads_after to_signers (Element ∷ digest_algorithm.steps) 0 b n y walk row.digest_algorithm.start row.digest_algorithm.end r.digest_algorithm_at

    attributes_leads : LeadsTo (signer i ▸ signed_attributes).steps 0 b row.attributes.start row.attributes.end
    attributes_leads = leads_after to_signers (Element ∷ signed_attributes.steps) 0 b n y walk row.attributes.start row.attributes.end r.attributes_at

    algorithm_leads : LeadsTo (signer i ▸ signature_algorithm).steps 0 b row.signature_algorithm.start row.signature_algorithm.end
    algorithm_leads = leads_after to_signers (Element ∷ signature_algorithm.steps) 0 b n y walk row.signature_algorithm.start row.signature_algorithm.end r.signature_algorithm_at

    signature_leads : LeadsTo (signer i ▸ signature).steps 0 b row.signature.start row.signature.end
    signature_leads = leads_after to_signers (Element ∷ signature.steps) 0 b n y walk row.signature.start row.signature.end r.signature_at

    parts : AreParts b v i s row
    parts =
        let between = are_between b v is.reads i s is_signer row digest_leads attributes_leads algorithm_leads in
        record {
          digest_algorithm_at =
              range_is (signer i ▸ digest_algorithm) 64 b v is.reads (digest_algorithm_of s) (of_signer b v is.reads i s is_signer digest_algorithm (digest_algorithm_of s) refl) row.digest_algorithm.start row.digest_algorithm.end digest_leads;
          attributes_at = λ some.
              range_is (signer i ▸ signed_attributes) 64 b v is.reads (signed_of s) (of_signer b v is.reads i s is_signer signed_attributes (signed_of s) (attributes_given b v is.reads i s is_signer some)) row.attributes.start row.attributes.end attributes_leads;
          signature_algorithm_at =
              range_is (signer i ▸ signature_algorithm) 64 b v is.reads (signature_algorithm_of s) (of_signer b v is.reads i s is_signer signature_algorithm (signature_algorithm_of s) refl) row.signature_algorithm.start row.signature_algorithm.end algorithm_leads;
          signature_at =
              range_is (signer i ▸ signature) 64 b v is.reads (signature_of s) (of_signer b v is.reads i s is_signer signature (signature_of s) (signature_of s, refl, refl)) row.signature.start row.signature.end signature_leads;
          before = between.0;
          between = between.1;
        }

  signers_part : signers.IsPart v (signers_of v)
  signers_part = (v.1.0, (v.1.0, refl, refl), (signers_of v, refl, refl))

  pub signer_rows_are : {A : Type 0} (rows : A → List SignerRow) (r : Result A Error) → MatchResult r (λ a. AreRows IsSignerRow signers.steps 0 b (rows a)) (λ e. e ≢ Memory → HasNoList signers.steps 0 b) → MatchResult r (λ a. AreSignerRows b v (rows a)) (λ e. e ≡ Memory)
  signer_rows_are rows (Ok a) h = record {
    each = λ i less d s is_signer. (let at = h.each i less d in parts i at.0 at.1 at.2 (get_or (rows a) i d) at.3 s is_signer);
    count = as_many SIGNER.format SIGNER.law signers 64 b v is.reads (signers_of v) signers_part IsSignerRow (rows a) h;
  }
  signer_rows_are rows (Err e) h = only_memory e (λ other. has_list SIGNER.format SIGNER.law signers 64 b v is.reads (signers_of v) signers_part (h other))

  -- the certificates, and other choices, as they are read
  abbrev choices : List certificate_choices.Value
  choices = v.1.0.1.1.1.0

  given : choices ≢ [] → (j : ℕ) → certificate_set.format.Reads j no_certificates choices → ⊥
  given some j r = some (only_none 0xA0 certificate_choices.format certificate_choices.law j choices r)

  certificate_part : (j : ℕ) (octets : ElementOctets) → slice_get (certificates_of v) j ≡ Some octets → (certificate j).IsPart v octets
  certificate_part j octets e =
      let c = from_map choice_octets choices j octets e in
      (v.1.0, (v.1.0, refl, refl), (choices, (refl, given (some_item choices j c.0 c.1)), (c.0, skips_to choices j c.0 c.1, c.2)))

  -- a certificate is in the range to which the steps lead
  pub certificate_is : (j : ℕ) (octets : ElementOctets) → slice_get (certificates_of v) j ≡ Some octets → (start end : ℕ) → LeadsTo (certificate j).steps 0 b start end → IsRangeOf (certificate j) 64 b v octets start end
  certificate_is j octets e start end leads = range_is (certificate j) 64 b v is.reads octets (certificate_part j octets e) start end leads

  certificates_part : choices ≢ [] → certificates.IsPart v choices
  certificates_part some = (v.1.0, (v.1.0, refl, refl), (choices, (refl, given some), refl))

  long_choices : length (certificates_of v) ≡ length choices
  long_choices = length-map choices choice_octets

  module _ (many : ℕ) (same : many ≡ length (certificates_of v)) where
    pub no_certificate_rows : (rows : List CertificateRow) → rows ≡ [] → many ≡ 0 → AreCertificateRows b v rows
    no_certificate_rows rows none zero_many = record {
      each = λ j less d octets e. absurd (omega (arith, less, ap length none));
      count = omega (arith, ap length none, same, zero_many);
    }

    some_choices : 0 < many → choices ≢ []
    some_choices some none = omega (arith, some, same, long_choices, ap length none)

    pub certificate_rows_are : 0 < many → {A : Type 0} (rows : A → List CertificateRow) (r : Result A Error) → MatchResult r (λ a. AreRows IsCertificateRow certificates.steps 0 b (rows a)) (λ e. e ≢ Memory → HasNoList certificates.steps 0 b) → MatchResult r (λ a. AreCertificateRows b v (rows a)) (λ e. e ≡ Memory)
    certificate_rows_are some rows (Ok a) h = record {
      each = λ j less d octets e.
          (let at = h.each j less d in
          let row = get_or (rows a) j d in
          certificate_is j octets e row.range.start row.range.end (leads_after (certificates.steps ++ Nth j ∷ []) (Element ∷ []) 0 b at.0 at.1 at.2 row.range.start row.range.end at.3));
      count = as_many certificate_choices.format certificate_choices.law certificates 64 b v is.reads choices (certificates_part (some_choices some)) IsCertificateRow (rows a) h ∙ sym long_choices;
    }
    certificate_rows_are some rows (Err e) h = only_memory e (λ other. has_list certificate_choices.format certificate_choices.law certificates 64 b v is.reads choices (certificates_part (some_choices some)) (h other))

  module _ (element_octets : ElementOctets) (is_content : content_of (content_info_of v) ≡ Some element_octets) where
    element_part : content_element.IsPart v element_octets
    element_part = (v.1.0, (v.1.0, refl, refl), (content_info_of v, refl, (element_octets, is_content, refl)))

    contents_there : (octets : Octets) × AreContentsOf octets element_octets
    contents_there =
        let f = content_element.found 64 v element_octets element_part 0 b is.reads in
        let e = f.3.1 in
        (e.contents, record { tag = e.tag; is_tag = e.is_tag; is = sym f.3.0 ∙ e.is })

    pub content_is : (r : Range ℕ) → LeadsTo content.steps 0 b r.start r.end → IsContentFound b v (Some r)
    content_is r leads =
        let octets = contents_there.0 in
        let at = range_is content 64 b v is.reads octets (element_octets, element_part, contents_there.1) r.start r.end leads in
        record {
          at = (Some octets, subst (λ c. IsRawHashed c (Some octets)) (sym is_content) contents_there.1, octets_at content 64 b v octets r.start r.end at);
          place = (octets, at);
        }

  pub no_content : content_of (content_info_of v) ≡ None → IsContentFound b v None
  no_content none = record { at = (None, subst (λ c. IsRawHashed c None) (sym none) refl, tt); place = tt }
