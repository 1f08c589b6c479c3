use Rattle.pkcs7_signed_crl.specs.SignerParts.{signer_identifier_value}
use Rattle.pkcs7_verifier.proofs.Firsts.{is_first, is_later}
use Rattle.x509_pkcs7.specs.AllSigners.{known_value, IsKnownAs}
use Rattle.x509_pkcs7.proofs.verifier.all_signers.first_known.Goals as goal

pub returns-then-is_named_by : goal.returns-then-is_named_by
returns-then-is_named_by c = is_first known_value c.args.known.now c.loop-certificate.certificate-index c.certificate-item.result c.loop-certificate-test.true c.certificate-item.is (IsKnownAs (signer_identifier_value c.args.signer.now)) c.loop-certificate.invariant c.if-is_named_by.ensures

pub loop-certificate-preserved : goal.loop-certificate-preserved
loop-certificate-preserved c = is_later known_value c.args.known.now c.loop-certificate.certificate-index c.certificate-item.result c.loop-certificate-test.true c.certificate-item.is (IsKnownAs (signer_identifier_value c.args.signer.now)) c.loop-certificate.invariant c.if-is_named_by.ensures
