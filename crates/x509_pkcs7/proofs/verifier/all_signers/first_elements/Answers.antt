use Rattle.std.proofs.Common.{map, ap, ◌∙◌}
use Rattle.std.specs.List.{enumerate_from}
use Rattle.std.proofs.lemmas.List.{map_push}
use Rattle.asn1_core.specs.Der.{option_value}
use Rattle.pkcs7_signed_crl.specs.SignerParts.{signer_identifier_value}
use Rattle.x509_pkcs7.proofs.AllFirsts.{signers_step, signers_all}
use Rattle.x509_pkcs7.specs.AllSigners.{numbered_of}
use Rattle.x509_pkcs7.proofs.verifier.all_signers.first_elements.Goals as goal

pub loop-signer-preserved : goal.loop-signer-preserved
loop-signer-preserved c =
    λ certificates known. signers_step (λ s. signer_identifier_value s.now) c.args.signers.now c.loop-signer.signer-index certificates c.signer-item.result c.loop-signer-test.true c.signer-item.is (option_value numbered_of c.in_ok-certificate.certificate) (c.in_ok-certificate.ensures (enumerate_from 0 certificates) known)
    (map (λ f. option_value numbered_of f) c.loop-signer.found.items) (map (λ f. option_value numbered_of f) c.push.new.self.items)
    (ap (map (λ f. option_value numbered_of f)) c.in_ok-push.ensures.items ∙ map_push (λ f. option_value numbered_of f) c.loop-signer.found.items c.in_ok-certificate.certificate)
    (c.loop-signer.invariant certificates known)

pub returns : goal.returns
returns c = λ certificates known. signers_all (λ s. signer_identifier_value s.now) c.args.signers.now c.loop-signer.signer-index certificates (map (λ f. option_value numbered_of f) c.loop-signer.found.items) c.loop-signer-test.false (c.loop-signer.invariant certificates known)
