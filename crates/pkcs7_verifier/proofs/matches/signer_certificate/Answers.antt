use Rattle.std.proofs.Common.{◌↔◌, IsTrue, subst}
use Rattle.pkcs7_signed_crl.specs.Certificates.{certificate_choices_value}
use Rattle.pkcs7_signed_crl.specs.SignerParts.{signer_identifier_value}
use Rattle.pkcs7_verifier.proofs.Firsts.{is_first_at}
use Rattle.pkcs7_verifier.specs.Matches.{IsSigners, choice_octets}
use Rattle.pkcs7_verifier.proofs.matches.signer_certificate.Goals as goal

pub returns-then-found : goal.returns-then-found
returns-then-found c =
    is_first_at (λ x. choice_octets (certificate_choices_value x)) c.args.certificates.now c.loop-certificate.certificate-index c.certificate-item.result c.loop-certificate-test.true c.certificate-item.is
    (IsSigners (signer_identifier_value c.args.signer.now)) c.loop-certificate.invariant c.as_slice.result.now c.certificate_element-element.result.now.0.items c.as_slice.ensures.value c.certificate_element-element.ensures
    (subst (λ b. IsTrue b ↔ IsSigners (signer_identifier_value c.args.signer.now) c.as_slice.result.now) c.if-found.true c.in_ok-found.ensures)
