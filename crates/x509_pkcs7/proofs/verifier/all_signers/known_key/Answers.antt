use Rattle.pkcs7_verifier.specs.Heads.{certificate_head_value}
use Rattle.x509_pkcs7.proofs.AllFirsts.{key_is_known, key_is_not_read}
use Rattle.x509_pkcs7.specs.AllSigners.{key_octets}
use Rattle.x509_pkcs7.proofs.verifier.all_signers.known_key.Goals as goal

pub returns-in-Ok : goal.returns-in-Ok
returns-in-Ok c = key_is_known (certificate_head_value c.args.head.now) (key_octets c.in-Ok.key) c.in-Ok.ensures

pub returns-in_ok-without_answer-in-Err : goal.returns-in_ok-without_answer-in-Err
returns-in_ok-without_answer-in-Err c = key_is_not_read (certificate_head_value c.args.head.now) c.in-Err.error c.in-Err.ensures c.in_ok-without_answer-in-Err.ensures
