use Rattle.std.proofs.Common.{map}
use Rattle.pkcs7_signed_crl.specs.Certificates.{certificate_choices_value}
use Rattle.pkcs7_verifier.specs.Matches.{choice_octets}
use Rattle.x509_pkcs7.proofs.AllFirsts.{known_step, known_all}
use Rattle.x509_pkcs7.specs.AllSigners.{known_value}
use Rattle.x509_pkcs7.proofs.verifier.all_signers.known_certificates.Goals as goal

pub loop-index-preserved : goal.loop-index-preserved
loop-index-preserved c = known_step (λ x. choice_octets (certificate_choices_value x)) c.args.certificates.now c.loop-index.index c.index-certificates-index.result c.loop-index-test.true c.index-certificates-index.is c.certificate_element.result.now.0.items c.certificate_element.ensures (map known_value c.loop-index.found.items) (map known_value c.push_known.new.found.items) c.in_ok-push_known.ensures c.loop-index.invariant

pub returns : goal.returns
returns c = known_all (λ x. choice_octets (certificate_choices_value x)) c.args.certificates.now c.loop-index.index (map known_value c.loop-index.found.items) c.loop-index-test.false c.loop-index.invariant
