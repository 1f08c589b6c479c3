-- Laws of `Heads.antt`.
use Rattle.asn1_core.specs.Asn1.{SEQUENCE}
use Rattle.std.specs.Prelude.{◌≡◌, ℕ, List, [], ◌++◌}
use Rattle.std.proofs.Common.{refl, ap, ◌∙◌, append_assoc}
use Rattle.asn1_core.specs.Der.{Format, nothing, number_below, version, octet_string, is_default, text_unless, text_if}
use Rattle.pkcs7_content.specs.ContentLaws.{encapsulated_content_info}
use Rattle.x509_base.specs.Algorithms.{algorithm_identifier}
use Rattle.pkcs7_signed_crl.specs.Algorithms.{digest_algorithm_identifiers}
use Rattle.pkcs7_attributes.specs.Attributes.{attributes, no_attributes}
use Rattle.pkcs7_signed_crl.specs.Certificates.{certificate_set, no_certificates}
use Rattle.pkcs7_signed_crl.specs.Revocations.{revocation_info_choices}
use Rattle.pkcs7_signed_crl.specs.SignerParts.{signer_identifier}
use Rattle.pkcs7_signed.specs.Parts.{SignerParts, signer_end, signer_parts, SignedParts, signed_end, signed_parts}

-- the parts, and then what follows them
appended : (a x t y : List ℕ) → x ++ t ≡ y → (a ++ x) ++ t ≡ a ++ y
appended a x t y e = append_assoc a x t ∙ ap (λ z. a ++ z) e

five_after : (a b c d e t : List ℕ) → (a ++ (b ++ (c ++ (d ++ (e ++ []))))) ++ t ≡ a ++ (b ++ (c ++ (d ++ (e ++ t))))
five_after a b c d e t = appended a _ t _ (appended b _ t _ (appended c _ t _ (appended d _ t _ (appended e [] t t refl))))

six_after : (a b c d e f t : List ℕ) → (a ++ (b ++ (c ++ (d ++ (e ++ (f ++ [])))))) ++ t ≡ a ++ (b ++ (c ++ (d ++ (e ++ (f ++ t)))))
six_after a b c d e f t = appended a _ t _ (five_after b c d e f t)

module _ {R : Type 0} (F : Format R) (r : R) where
  pub signer_head_text : (p : SignerParts (Unit {0})) → (signer_parts nothing).text p ++ F.text r ≡ (signer_parts F).text (signer_end p r)
  signer_head_text p =
      six_after ((version 1).text p.0) (signer_identifier.format.text p.1.0) ((SEQUENCE algorithm_identifier).format.text p.1.1.0)
      (text_unless (is_default attributes.format no_attributes p.1.1.1.0) (attributes.format.text p.1.1.1.0))
      ((SEQUENCE algorithm_identifier).format.text p.1.1.1.1.0) (octet_string.text p.1.1.1.1.1.0) (F.text r)

  pub signed_head_text : (p : SignedParts (Unit {0})) → (signed_parts nothing).text p ++ F.text r ≡ (signed_parts F).text (signed_end p r)
  signed_head_text p =
      five_after ((number_below 6).text p.0) (digest_algorithm_identifiers.format.text p.1.0) ((SEQUENCE encapsulated_content_info).format.text p.1.1.0)
      (text_unless (is_default certificate_set.format no_certificates p.1.1.1.0) (certificate_set.format.text p.1.1.1.0))
      (text_if revocation_info_choices.format.text p.1.1.1.1.0) (F.text r)
