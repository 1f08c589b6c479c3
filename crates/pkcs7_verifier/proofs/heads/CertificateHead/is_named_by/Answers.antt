use Rattle.pkcs7_verifier.proofs.KeyIds.{named_by_key}
use Rattle.pkcs7_verifier.specs.Heads.{certificate_head_value}
use Rattle.pkcs7_verifier.proofs.heads.CertificateHead.is_named_by.Goals as goal

pub returns-in-SubjectKeyIdentifier : goal.returns-in-SubjectKeyIdentifier
returns-in-SubjectKeyIdentifier c = named_by_key c.args.signer.now c.in-SubjectKeyIdentifier.key (certificate_head_value c.args.self.now) c.has_key.result c.in-SubjectKeyIdentifier.is c.has_key.ensures
