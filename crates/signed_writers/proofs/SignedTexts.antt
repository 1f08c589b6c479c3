-- Signed data whose sets are encodings is written as the signed data that it is.
use Rattle.std.specs.Prelude.{◌≡◌, ℕ, true, false, List, [], ◌∷◌, Option, None, Some, map}
use Rattle.std.proofs.Common.{ap, refl, sym, true≢false, ◌++◌, ◌∙◌}
use Rattle.std.proofs.lemmas.List.{map-id}
use Rattle.std.proofs.lemmas.List.Folds.{flat_map-map}
use Rattle.asn1_core.specs.Asn1.{ANY, SEQUENCE, SET_OF}
use Rattle.asn1_core.specs.Der.{ElementOctets, each, element, is_default, number_below, only_oid, raw, set_of, text_unless, within}
use Rattle.asn1_core_format.specs.Components.{normal_if, text_if}
use Rattle.asn1_core_format.specs.laws.EmptySets.{empty_alone}
use Rattle.pkcs7_signed_crl.specs.Algorithms.{digest_algorithm_identifiers}
use Rattle.pkcs7_signed_crl.specs.Certificates.{certificate_choices, certificate_set, no_certificates}
use Rattle.pkcs7_signed_crl.specs.laws.Certificates.{some_certificate}
use Rattle.signed_writers.proofs.Normals.{algorithms_normal, choice_of, choices_normal, choices_text, signers_normal}
use Rattle.signed_writers.specs.Given.{GivenFileValue, given_file}
use Rattle.signed_writers.specs.Parts.{set_of_some}
use Rattle.signed_writers.specs.Signed.{signer_text}
use Rattle.signer_ranges.specs.SignerRoutes.{FileValue, SIGNER, SignerValue, signed_file}
use Rattle.signer_ranges.specs.Signers.{algorithm_text}
use Rattle.x509_base.specs.Algorithms.{algorithm_identifier}
use Rattle.x509_pkcs7.specs.RawContents.{raw_encapsulated_content_info}
use Rattle.x509_pkcs7.specs.RawSigned.{signed_data_oid}

abbrev INFO : raw_encapsulated_content_info.Value → List ℕ
INFO i = (SEQUENCE raw_encapsulated_content_info).format.text i

algorithms_text : (all : List algorithm_identifier.Value) → (SET_OF ANY).format.text (map algorithm_text all) ≡ digest_algorithm_identifiers.format.text all
algorithms_text all = ap (λ x. element 0x31 x) (flat_map-map (λ v. v) algorithm_text all)

signers_text : (all : List SignerValue) → (SET_OF ANY).format.text (map signer_text all) ≡ (set_of SIGNER.format).text all
signers_text all = ap (λ x. element 0x31 x) (flat_map-map (λ v. v) signer_text all)

-- the set of certificates is left out where it is empty
abbrev certificates_text : List ElementOctets → List ℕ
certificates_text es = text_unless (is_default certificate_set.format no_certificates (map choice_of es)) (certificate_set.format.text (map choice_of es))

certificates_same : (es : List ElementOctets) → text_if (within 0xA0 (each raw)).text (set_of_some es) ≡ certificates_text es
certificates_same [] = ap (λ b. text_unless b (certificate_set.format.text [])) (empty_alone 0xA0 certificate_choices.format [] true some_certificate (λ t. refl, λ e. refl))
certificates_same (e ∷ es) =
    ap (λ x. element 0xA0 x) (choices_text (e ∷ es))
    ∙ ap (λ b. text_unless b (certificate_set.format.text (map choice_of (e ∷ es)))) (empty_alone 0xA0 certificate_choices.format (map choice_of (e ∷ es)) false some_certificate (λ t. absurd (true≢false (sym t)), λ n. (let q : choice_of e ∷ map choice_of es ≡ [] = n in cc)))

module _ (version : ℕ) (algorithms : List algorithm_identifier.Value) (info : raw_encapsulated_content_info.Value) (certificates : List ElementOctets) (crls : Option (List ElementOctets)) (signers : List SignerValue) where
  abbrev pub given_value : GivenFileValue
  given_value = (signed_data_oid, ((version, (map algorithm_text algorithms, (info, (set_of_some certificates, (crls, (map signer_text signers, tt)))))), tt))

  abbrev pub value : FileValue
  value = (signed_data_oid, ((version, (algorithms, (info, (map choice_of certificates, (crls, (signers, tt)))))), tt))

  -- what is around the three sets
  abbrev frame : List ℕ → List ℕ → List ℕ → List ℕ
  frame a c s =
      element 0x30 ((only_oid signed_data_oid).text signed_data_oid ++ (element 0xA0
      (element 0x30 ((number_below 6).text version ++ (a ++ (INFO info ++ (c ++ (text_if (within 0xA1 (each raw)).text crls ++ (s ++ []))))))) ++ []))

  pub same_text : given_file.text given_value ≡ signed_file.text value
  same_text =
      ap (λ a. frame a (text_if (within 0xA0 (each raw)).text (set_of_some certificates)) ((SET_OF ANY).format.text (map signer_text signers))) (algorithms_text algorithms)
      ∙ ap (λ c. frame (digest_algorithm_identifiers.format.text algorithms) c ((SET_OF ANY).format.text (map signer_text signers))) (certificates_same certificates)
      ∙ ap (λ s. frame (digest_algorithm_identifiers.format.text algorithms) (certificates_text certificates) s) (signers_text signers)

option_normal : (o : Option ElementOctets) → normal_if (λ v. v) o ≡ o
option_normal None = refl
option_normal (Some e) = refl

set_normal : (o : Option (List ElementOctets)) → normal_if (map (λ v. v)) o ≡ o
set_normal None = refl
set_normal (Some es) = ap (λ l. Some l) (map-id es)

pub value_normal : (version : ℕ) (algorithms : List algorithm_identifier.Value) (info : raw_encapsulated_content_info.Value) (certificates : List ElementOctets) (crls : Option (List ElementOctets)) (signers : List SignerValue) → signed_file.normal (value version algorithms info certificates crls signers) ≡ value version algorithms info certificates crls signers
value_normal version algorithms (o, (content, u)) certificates crls signers =
    let cs = map choice_of certificates in
    ap (λ a. (signed_data_oid, ((version, (a, ((o, (normal_if (λ v. v) content, u)), (map certificate_choices.format.normal cs, (normal_if (map (λ v. v)) crls, (map SIGNER.format.normal signers, tt)))))), tt))) (algorithms_normal algorithms)
    ∙ ap (λ a. (signed_data_oid, ((version, (algorithms, ((o, (a, u)), (map certificate_choices.format.normal cs, (normal_if (map (λ v. v)) crls, (map SIGNER.format.normal signers, tt)))))), tt))) (option_normal content)
    ∙ ap (λ a. (signed_data_oid, ((version, (algorithms, ((o, (content, u)), (a, (normal_if (map (λ v. v)) crls, (map SIGNER.format.normal signers, tt)))))), tt))) (choices_normal certificates)
    ∙ ap (λ a. (signed_data_oid, ((version, (algorithms, ((o, (content, u)), (cs, (a, (map SIGNER.format.normal signers, tt)))))), tt))) (set_normal crls)
    ∙ ap (λ a. (signed_data_oid, ((version, (algorithms, ((o, (content, u)), (cs, (crls, (a, tt)))))), tt))) (signers_normal signers)
