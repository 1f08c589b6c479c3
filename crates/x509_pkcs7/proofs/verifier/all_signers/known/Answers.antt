use Rattle.pkcs7_verifier.specs.Heads.{certificate_head_value}
use Rattle.x509_pkcs7.proofs.AllFirsts.{is_known, is_not_known}
use Rattle.x509_pkcs7.specs.AllSigners.{key_octets}
use Rattle.x509_pkcs7.proofs.verifier.all_signers.known.Goals as goal

pub returns-in_ok-key-in-Ok : goal.returns-in_ok-key-in-Ok
returns-in_ok-key-in-Ok c = is_known c.as_slice.result.now c.args.element.now.0.items c.as_slice.ensures.value c.args.index (certificate_head_value c.in-Ok.head) (key_octets c.in_ok-key-in-Ok.key) c.in-Ok.ensures c.in_ok-key-in-Ok.ensures

pub returns-in_ok-without_answer-in-Err : goal.returns-in_ok-without_answer-in-Err
returns-in_ok-without_answer-in-Err c = is_not_known c.as_slice.result.now c.args.element.now.0.items c.as_slice.ensures.value c.args.index c.in-Err.error c.in-Err.ensures c.in_ok-without_answer-in-Err.ensures
