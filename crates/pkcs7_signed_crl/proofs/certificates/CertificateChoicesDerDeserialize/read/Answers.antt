use Rattle.std.proofs.Common.{rules}
use Rattle.std.proofs.lemmas.Bool.{iff_false}
use Rattle.pkcs7_signed_crl.proofs.ByTag.{certificate_has_read, other_has_read, certificate_refused}
use Rattle.pkcs7_signed_crl.proofs.certificates.CertificateChoicesDerDeserialize.read.Goals as goal

pub returns-in_err-element : goal.returns-in_err-element
returns-in_err-element c = let r = certificate_refused c.args.nest c.in_err-element.ensures in search rules

pub returns-then-is_sequence : goal.returns-then-is_sequence
returns-then-is_sequence c = certificate_has_read c.args.nest c.in_ok-element.ensures (c.is_sequence.ensures.0 c.if-is_sequence.true)

pub returns-else-is_sequence : goal.returns-else-is_sequence
returns-else-is_sequence c = other_has_read c.args.nest c.in_ok-element.ensures (iff_false c.is_sequence.ensures c.if-is_sequence.false)
