-- Laws of `RawSigned.antt`.
use Rattle.asn1_core.specs.Asn1.{SEQUENCE}
use Rattle.std.specs.Prelude.{◌≡◌, ◌↔◌, Bool, true}
use Rattle.std.proofs.Common.{arith, refl, ap}
use Rattle.asn1_core.specs.Der.{Format, IsLawful, IsLawfulComponents, lawful_sequence, followed_by, perhaps, lawful_number, lawful_nothing, lawful_set, lawful_explicit, lawful_only_oid, unless}
use Rattle.pkcs7_signed_crl.specs.Algorithms.{digest_algorithm_identifiers}
use Rattle.pkcs7_signed_crl.specs.Certificates.{certificate_set}
use Rattle.pkcs7_signed_crl.specs.laws.Certificates.{no_certificates_left_out}
use Rattle.x509_pkcs7.specs.RawContents.{raw_encapsulated_content_info}
use Rattle.pkcs7_signed.specs.Oids.{signed_data_oid}
use Rattle.x509_pkcs7.specs.RawSigned.{raw_certificate, raw_revocation_info_choices, raw_signed, sets_components}

module _ {V : Type 0} where
  lawful_sets_components : (F : Format V) → IsLawful F → IsLawfulComponents ((sets_components {V = V}) F)
  lawful_sets_components F f =
      unless certificate_set.law no_certificates_left_out refl
      (perhaps raw_revocation_info_choices.law refl (followed_by (lawful_set F f) lawful_nothing))

  pub lawful_raw_signed : (F : Format V) → IsLawful F → IsLawful ((raw_signed {V = V}) F)
  lawful_raw_signed F f = lawful_sequence (followed_by (lawful_number 6) (followed_by digest_algorithm_identifiers.law (followed_by (SEQUENCE raw_encapsulated_content_info).law (lawful_sets_components F f))))

pub lawful_raw_certificate : {V : Type 0} (F : Format V) → IsLawful F → IsLawful (raw_certificate F)
lawful_raw_certificate F f = lawful_sequence (followed_by (lawful_only_oid signed_data_oid) (followed_by (lawful_explicit (omega arith) (lawful_raw_signed F f)) lawful_nothing))

-- after a field that is always the same
pub with_head : {A B : Type 0} {p : Bool} {c : A} {b d : B} → (p ≡ true) ↔ (b ≡ d) → (p ≡ true) ↔ (◌≡◌ {A = A × B} (c, b) (c, d))
with_head {A} {B} {p} {c} f = (λ e. ap (λ x. (c, x)) (f.0 e), λ e. f.1 (ap (λ x. x.1) e))
