use Rattle.pkcs7_signed_crl.specs.SignerParts.{signer_identifier_value}
use Rattle.pkcs7_verifier.proofs.KeyIds.{signers_if_named, not_signers}
use Rattle.pkcs7_verifier.specs.Heads.{certificate_head_value}
use Rattle.pkcs7_verifier.proofs.matches.is_signers.Goals as goal

pub returns-in-Ok : goal.returns-in-Ok
returns-in-Ok c = signers_if_named (signer_identifier_value c.args.signer.now) c.args.element.now (certificate_head_value c.in-Ok.head) c.is_named_by.result c.in-Ok.ensures c.is_named_by.ensures

pub returns-in-Err : goal.returns-in-Err
returns-in-Err c = not_signers (signer_identifier_value c.args.signer.now) c.args.element.now c.without_answer.result c.in-Err.error c.in-Err.ensures c.without_answer.ensures
