use Rattle.std.proofs.Common.{ap, map, subst, sym, ◌∙◌}
use Rattle.asn1_core.specs.Der.{option_value}
use Rattle.pkcs7_signed_crl.specs.Certificates.{certificate_choices_value}
use Rattle.pkcs7_signed_crl.specs.SignerParts.{signer_identifier_value}
use Rattle.pkcs7_verifier.specs.Matches.{choice_octets}
use Rattle.x509_pkcs7.proofs.AllFirsts.{signers_without_index}
use Rattle.x509_pkcs7.specs.AllSigners.{AreSigners}
use Rattle.x509_pkcs7.proofs.verifier.all_signers.signer_certificates.Goals as goal

pub returns : goal.returns
returns c =
    subst (AreSigners (map (λ x. choice_octets (certificate_choices_value x)) c.args.certificates.now) (map (λ s. signer_identifier_value s.now) c.args.signers.now))
    (sym (c.in_ok-elements.ensures ∙ ap (map (λ f. option_value (λ e. e.element.now.0.items) f)) c.deref.ensures.value))
    (signers_without_index (map (λ x. choice_octets (certificate_choices_value x)) c.args.certificates.now) (map (λ s. signer_identifier_value s.now) c.args.signers.now) c.in_ok-found.found.items c.in_ok-found.ensures)
