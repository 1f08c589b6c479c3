-- Laws of `Parts.antt`.
use Rattle.asn1_core.specs.Asn1.{SEQUENCE}
use Rattle.std.specs.Prelude.{◌≡◌, ℕ, List, true}
use Rattle.std.proofs.Common.{arith, refl, ⊎_elim}
use Rattle.asn1_core.specs.Der.{no_tag, Format, IsLawfulComponents, lawful_number, lawful_version_1, followed_by, perhaps, lawful_octet_string, no_grammar, always, is_default, lawful_omitted, unless, are_distinct, distinct_tags}
use Rattle.pkcs7_content.specs.ContentLaws.{encapsulated_content_info}
use Rattle.pkcs7_signed_crl.specs.Algorithms.{digest_algorithm_identifiers}
use Rattle.pkcs7_attributes.specs.Attributes.{attributes}
use Rattle.pkcs7_attributes.specs.laws.Attributes.{no_attributes_left_out}
use Rattle.pkcs7_signed_crl.specs.Certificates.{certificate_set, no_certificates}
use Rattle.pkcs7_signed_crl.specs.laws.Certificates.{no_certificates_left_out}
use Rattle.pkcs7_signed_crl.specs.Revocations.{revocation_info_choices}
use Rattle.pkcs7_signed_crl.specs.SignerParts.{signer_identifier}
use Rattle.x509_base.specs.Algorithms.{algorithm_identifier}
use Rattle.pkcs7_signed.specs.Parts.{signed_parts, signer_parts}

pub lawful_signer_parts : {V : Type 0} {R : Format V} → IsLawfulComponents R → IsLawfulComponents (signer_parts R)
lawful_signer_parts {V} {R} r =
    followed_by lawful_version_1 (followed_by signer_identifier.law (followed_by (SEQUENCE algorithm_identifier).law
    (unless attributes.law no_attributes_left_out refl
    (followed_by (SEQUENCE algorithm_identifier).law (followed_by lawful_octet_string r)))))

pub lawful_signed_parts : {V : Type 0} {R : Format V} → IsLawfulComponents R → are_distinct revocation_info_choices.format R ≡ true → are_distinct certificate_set.format R ≡ true → IsLawfulComponents (signed_parts R)
lawful_signed_parts {V} {R} r e f =
    followed_by (lawful_number 6) (followed_by digest_algorithm_identifiers.law (followed_by (SEQUENCE encapsulated_content_info).law
    (lawful_omitted (is_default certificate_set.format no_certificates) no_certificates certificate_set.format _ certificate_set.law
    (perhaps revocation_info_choices.law e r)
    no_certificates_left_out
    (λ t h i. ⊎_elim (λ (x : t ≡ 0xA1). omega (arith, h, x)) (distinct_tags certificate_set.format R f t h) i))))

-- something that is written so and has so many elements
abbrev pub ending : List ℕ → ℕ → Format (Unit {0})
ending t n = always (record { text = λ _. t; normal = λ v. v; IsTag = λ _. ⊥; first = no_tag; least = λ _. n }) no_grammar
