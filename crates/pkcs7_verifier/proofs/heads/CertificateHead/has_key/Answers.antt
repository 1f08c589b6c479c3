use Rattle.std.proofs.Common.{subst}
use Rattle.asn1_core.specs.Der.{option_value}
use Rattle.pkcs7_verifier.proofs.KeyIds.{same_key, no_own_key, not_key}
use Rattle.pkcs7_verifier.specs.Heads.{certificate_head_value}
use Rattle.pkcs7_verifier.specs.KeyIdentifiers.{rest_of, IsKeyIdOf}
use Rattle.pkcs7_verifier.proofs.heads.CertificateHead.has_key.Goals as goal

pub returns-in-Ok-Some : goal.returns-in-Ok-Some
returns-in-Ok-Some c = same_key (rest_of (certificate_head_value c.args.self.now)) c.is_same.result c.in-Ok-Some.own.0.0.items c.args.key.now.0.0.items (subst (λ o. IsKeyIdOf (rest_of (certificate_head_value c.args.self.now)) (option_value (λ k. k.0.0.items) o)) c.in-Ok-Some.field-0-is c.in-Ok-Some.ensures) c.is_same.ensures

pub returns-in-Ok-None : goal.returns-in-Ok-None
returns-in-Ok-None c = no_own_key (rest_of (certificate_head_value c.args.self.now)) c.args.key.now.0.0.items (subst (λ o. IsKeyIdOf (rest_of (certificate_head_value c.args.self.now)) (option_value (λ k. k.0.0.items) o)) c.in-Ok-None.field-0-is c.in-Ok-None.ensures)

pub returns-in-Err : goal.returns-in-Err
returns-in-Err c = not_key (rest_of (certificate_head_value c.args.self.now)) c.args.key.now.0.0.items c.without_answer.result c.in-Err.error c.in-Err.ensures c.without_answer.ensures
