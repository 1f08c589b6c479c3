-- What parts that are in order are written as.
use Rattle.std.specs.Prelude.{◌≡◌, ◌≢◌, ◌<◌, ℕ, List, [], ◌∷◌, Option, None, Some, map, Result, Ok, Err, MatchResult}
use Rattle.std.specs.List.{AllByRecursion}
use Rattle.std.specs.List.Sorted.{IsPermutation, IsSorted}
use Rattle.std.proofs.Common.{ap, arith, inl, inr, refl, subst, sym, ◌∙◌}
use Rattle.std.proofs.lemmas.List.Elements.{All-from_recursion, recursion_from_All}
use Rattle.std.proofs.lemmas.List.Filters.{All-dedup}
use Rattle.std.proofs.lemmas.List.Sorted.{All-permutation}
use Rattle.std.proofs.lemmas.Option.{none-some}
use Rattle.asn1_core.specs.Der.{ElementOctets, IsElement, IsTagByte}
use Rattle.asn1_core_element.specs.declared.error.Error.{Error}
use Rattle.asn1_core_format.specs.Components.{AllIf}
use Rattle.asn1_core_format.specs.laws.Whole.{value_of}
use Rattle.asn1_borrowed.specs.Written.{IsNotWritten}
use Rattle.asn1_sets.proofs.NotEncoded.{no_memory, no_memory_invalid, not_invalid}
use Rattle.asn1_sets.specs.Order.{IsInOrder, compared}
use Rattle.attribute_writers.proofs.Found.{text_element}
use Rattle.pkcs7_content.specs.Versions.{number_of}
use Rattle.pkcs7_content.specs.declared.versions.CmsVersion.{CmsVersion}
use Rattle.pkcs7_content.specs.declared.versions.CmsVersion.TheVariants.{V0, V1, V2, V3, V4, V5}
use Rattle.signed_writers.proofs.Normals.{choices_are, choices_formed}
use Rattle.signed_writers.proofs.SignedTexts.{given_value, same_text, value, value_normal}
use Rattle.signed_writers.specs.Given.{given_file}
use Rattle.signed_writers.specs.PartValues.{certificates_in, crls_in, file_value, texts_in}
use Rattle.signed_writers.specs.Parts.{AreFormed, HasParts, set_of_some}
use Rattle.signed_writers.specs.Signed.{AreParts, CanBeWritten, GivenParts, IsChoice, IsUnwritten, IsRevocation, IsSignedData, is_same, signer_text, some_of}
use Rattle.signed_writers.specs.Values.{content_info_value}
use Rattle.signed_writers.specs.declared.parts.SignedFile.{SignedFile}
use Rattle.signed_writers.specs.declared.parts.SignedParts.{SignedParts}
use Rattle.signer_ranges.specs.SignerRoutes.{ALGORITHM, FileValue, SIGNER, SignerValue, signed_file}
use Rattle.signer_ranges.specs.Signers.{algorithm_text, digest_algorithm_of}
use Rattle.x509_base.specs.Algorithms.{algorithm_identifier}
use Rattle.x509_pkcs7.specs.RawSigned.{signed_data_oid}
use Rattle.x509_pkcs7.specs.laws.RawSigned.{lawful_raw_certificate}

version_low : (v : CmsVersion) → number_of v < 6
version_low V0 = omega arith
version_low V1 = omega arith
version_low V2 = omega arith
version_low V3 = omega arith
version_low V4 = omega arith
version_low V5 = omega arith

texts_formed : (all : List algorithm_identifier.Value) → AreFormed all → AllByRecursion (IsElement IsTagByte) (map algorithm_text all)
texts_formed [] h = tt
texts_formed (a ∷ all) h = (text_element ALGORITHM.format ALGORITHM.law a h.0, texts_formed all h.1)

signer_texts_formed : (all : List SignerValue) → AllByRecursion (SIGNER.format.IsWellFormed 64) all → AllByRecursion (IsElement IsTagByte) (map signer_text all)
signer_texts_formed [] h = tt
signer_texts_formed (s ∷ all) h = (text_element SIGNER.format SIGNER.law s h.0, signer_texts_formed all h.1)

set_formed : (es : List ElementOctets) → AllByRecursion (IsElement IsTagByte) es → AllIf (AllByRecursion (IsElement IsTagByte)) (set_of_some es)
set_formed [] h = tt
set_formed (e ∷ es) h = h

set_elements : (es : List ElementOctets) → AllIf (AllByRecursion (IsElement IsTagByte)) (set_of_some es) → AllByRecursion (IsElement IsTagByte) es
set_elements [] h = tt
set_elements (e ∷ es) h = h

some_set : (es : List ElementOctets) → some_of (set_of_some es) ≡ es
some_set [] = refl
some_set (e ∷ es) = refl

abbrev from_some : Option (List ElementOctets) → List ElementOctets
from_some None = []
from_some (Some es) = es

not_empty : (es : List ElementOctets) → set_of_some es ≢ Some []
not_empty [] e = none-some [] e
not_empty (x ∷ es) e = (let n : x ∷ es ≡ [] = ap (λ o. from_some o) e in cc)

choice_elements : (es : List ElementOctets) → AllByRecursion IsChoice es → AllByRecursion (IsElement IsTagByte) es
choice_elements [] h = tt
choice_elements (e ∷ es) h = (h.0.0, choice_elements es h.1)

revocation_elements : (es : List ElementOctets) → AllByRecursion IsRevocation es → AllByRecursion (IsElement IsTagByte) es
revocation_elements [] h = tt
revocation_elements (e ∷ es) h = (h.0.0, revocation_elements es h.1)

in_another_order : {X : Type 0} (P : X → Type 0) (xs ys : List X) → IsPermutation xs ys → AllByRecursion P xs → AllByRecursion P ys
in_another_order P xs ys p h = recursion_from_All P ys (All-permutation P xs ys p (All-from_recursion P xs h))

module _ (given : GivenParts) (can : CanBeWritten given) (p : SignedParts) (h : HasParts given p) where
  abbrev algorithms : List algorithm_identifier.Value
  algorithms = h.algorithms.all

  abbrev certificates : List ElementOctets
  certificates = h.certificates.sorted

  abbrev crls : Option (List ElementOctets)
  crls = set_of_some h.crls.sorted

  abbrev signers : List SignerValue
  signers = h.signers.order

  abbrev file : SignedFile
  file = record { signed_data = record { 0 = p } }

  abbrev found : FileValue
  found = value (number_of p.version) algorithms (content_info_value given.info) certificates crls signers

  pub given_is : file_value file ≡ given_value (number_of p.version) algorithms (content_info_value given.info) certificates crls signers
  given_is =
      ap (λ i. (signed_data_oid, ((number_of p.version, (texts_in p.digest_algorithms.0.items, (content_info_value i, (certificates_in p.certificates, (crls_in p.crls, (texts_in p.signers_infos.0.items, tt)))))), tt))) h.info
      ∙ ap (λ a. (signed_data_oid, ((number_of p.version, (a, (content_info_value given.info, (certificates_in p.certificates, (crls_in p.crls, (texts_in p.signers_infos.0.items, tt)))))), tt))) h.algorithms.texts_are
      ∙ ap (λ c. (signed_data_oid, ((number_of p.version, (map algorithm_text algorithms, (content_info_value given.info, (c, (crls_in p.crls, (texts_in p.signers_infos.0.items, tt)))))), tt))) h.certificates.is
      ∙ ap (λ l. (signed_data_oid, ((number_of p.version, (map algorithm_text algorithms, (content_info_value given.info, (set_of_some certificates, (l, (texts_in p.signers_infos.0.items, tt)))))), tt))) h.crls.is
      ∙ ap (λ s. (signed_data_oid, ((number_of p.version, (map algorithm_text algorithms, (content_info_value given.info, (set_of_some certificates, (crls, (s, tt)))))), tt))) h.signers.texts_are

  pub text_is : given_file.text (file_value file) ≡ signed_file.text found
  text_is = ap (λ v. given_file.text v) given_is ∙ same_text (number_of p.version) algorithms (content_info_value given.info) certificates crls signers

  algorithms_formed : AreFormed algorithms
  algorithms_formed =
      let F = ALGORITHM.format.IsWellFormed 64 in
      let all = in_another_order F (map digest_algorithm_of given.signers) h.algorithms.distinct.order h.algorithms.distinct.permutation h.algorithms.formed in
      subst AreFormed (sym h.algorithms.distinct.once) (recursion_from_All F _ (All-dedup is_same F h.algorithms.distinct.order (All-from_recursion F h.algorithms.distinct.order all)))

  signers_formed : AllByRecursion (SIGNER.format.IsWellFormed 64) signers
  signers_formed = in_another_order (SIGNER.format.IsWellFormed 64) given.signers signers h.signers.permutation h.signers.formed

  pub can_formed : given_file.IsWellFormed 64 (file_value file)
  can_formed =
      subst (given_file.IsWellFormed 64) (sym given_is) (
        refl,
        (
          (
            version_low p.version,
            (
              texts_formed algorithms algorithms_formed,
              (
                can.content,
                (
                  set_formed certificates (in_another_order (IsElement IsTagByte) given.certificates certificates h.certificates.in_order.permutation (choice_elements given.certificates can.certificates)),
                  (
                    set_formed h.crls.sorted (in_another_order (IsElement IsTagByte) given.crls h.crls.sorted h.crls.in_order.permutation (revocation_elements given.crls can.crls)),
                    (signer_texts_formed signers signers_formed, tt),
                  ),
                ),
              ),
            ),
          ),
          tt,
        ),
      )

  module _ (formed : given_file.IsWellFormed 64 (file_value file)) where
    abbrev at_given : given_file.IsWellFormed 64 (given_value (number_of p.version) algorithms (content_info_value given.info) certificates crls signers)
    at_given = subst (given_file.IsWellFormed 64) given_is formed

    found_formed : signed_file.IsWellFormed 64 found
    found_formed = (
      refl,
      (
        (
          version_low p.version,
          (
            algorithms_formed,
            (
              at_given.1.0.1.1.0,
              (choices_formed certificates (set_elements certificates at_given.1.0.1.1.1.0), (at_given.1.0.1.1.1.1.0, (signers_formed, tt))),
            ),
          ),
        ),
        tt,
      ),
    )

    parts_are : AreParts given found
    parts_are = record {
      version = h.version;
      digest_algorithms = h.algorithms.distinct;
      content = refl;
      certificates = subst (IsInOrder given.certificates) (sym (choices_are certificates)) h.certificates.in_order;
      crls = subst (IsInOrder given.crls) (sym (some_set h.crls.sorted)) h.crls.in_order;
      not_empty = not_empty h.crls.sorted;
      signers = record { permutation = h.signers.permutation; sorted = subst (IsSorted compared) h.signers.texts_are h.signers.sorted };
    }

    pub is_signed : (t : List ℕ) → t ≡ given_file.text (file_value file) → IsSignedData given t
    is_signed t e =
        let law = lawful_raw_certificate SIGNER.format SIGNER.law in
        let same : t ≡ signed_file.text found = e ∙ text_is in
        let reads = law.components.text_reads 64 found found_formed in
        let normal = subst (λ v. signed_file.Reads 64 (signed_file.text found) v) (value_normal (number_of p.version) algorithms (content_info_value given.info) certificates crls signers) reads in
        record {
          can = can;
          value = found;
          parts = parts_are;
          text_is = same;
          reads = value_of signed_file 64 t found law (subst (λ b. signed_file.Reads 64 b found) (sym same) normal);
        }

  not_signed : (e : Error) → IsNotWritten given_file (file_value file) e → IsUnwritten given e
  not_signed e (inl n) = record { kind = inl n.0; long = λ l. absurd (not_invalid e n.0 l); none = λ i c. n.1 can_formed }
  not_signed e (inr (inl n)) = record {
    kind = inr (inl n.1);
    long = λ _. inr (given_file.text (file_value file), is_signed n.0 (given_file.text (file_value file)) refl, n.2);
    none = λ i. absurd (not_invalid e i n.1);
  }
  not_signed e (inr (inr m)) = record { kind = inr (inr m); long = λ l. absurd (no_memory e m l); none = λ i. absurd (no_memory_invalid e m i) }

  pub signed_result : {A : Type 0} (items : A → List ℕ) (r : Result A Error) → MatchResult r (λ t. given_file.IsWellFormed 64 (file_value file) × (items t ≡ given_file.text (file_value file))) (λ e. IsNotWritten given_file (file_value file) e) → MatchResult r (λ t. IsSignedData given (items t)) (λ e. IsUnwritten given e)
  signed_result items (Ok t) w = is_signed w.0 (items t) w.1
  signed_result items (Err e) w = not_signed e w
