use Rattle.std.proofs.Common.{arith}
use Rattle.std.proofs.lemmas.Result.{err_from_is_err_and}
use Rattle.asn1_core.specs.Der.{within, lawful_within}
use Rattle.asn1_core_format.proofs.LevelReads.{has_refused_components, alone_has_read, unopened}
use Rattle.asn1_core_format.proofs.ComponentReads.{within_refused, within_has_read, alone_refused, alone_left}
use Rattle.pkcs7_signed.specs.Signers.{signed_data}
use Rattle.pkcs7_signed.specs.laws.SignerLaws.{lawful_signed_data}
use Rattle.pkcs7_signed.specs.SignerValues.{signed_value}
use Rattle.pkcs7_signed.proofs.recursion.pkcs7_certificate.read_tagged_with.Goals as goal

pub returns-in_err-signed : goal.returns-in_err-signed
returns-in_err-signed g c =
    has_refused_components (λ x. signed_value x.0.0.0.value) (within 0xA0 signed_data) c.args.nest (err_from_is_err_and c.from_residual-in_err-signed.result c.from_residual-in_err-signed.ensures.1)
    (alone_refused (within 0xA0 signed_data) c.args.nest (within_refused signed_data c.args.nest 0xA0 c.in_ok-outer.ensures (alone_refused signed_data c.args.nest c.in_err-signed.ensures)))

pub returns-in_err-outer : goal.returns-in_err-outer
returns-in_err-outer g c =
    has_refused_components (λ x. signed_value x.0.0.0.value) (within 0xA0 signed_data) c.args.nest (err_from_is_err_and c.from_residual.result c.from_residual.ensures.1)
    (alone_refused (within 0xA0 signed_data) c.args.nest (unopened signed_data c.args.nest 0xA0 c.in_err-outer.ensures))

pub returns-then-left-gt0 : goal.returns-then-left-gt0
returns-then-left-gt0 g c =
    alone_refused (within 0xA0 signed_data) c.args.nest (within_refused signed_data c.args.nest 0xA0 c.in_ok-outer.ensures
    (alone_left signed_data c.args.nest lawful_signed_data c.in_ok-signed.ensures (omega (arith, c.left.ensures, c.if-left-gt0.true))))

pub returns-then-left-gt0-2 : goal.returns-then-left-gt0-2
returns-then-left-gt0-2 g c =
    alone_left (within 0xA0 signed_data) c.args.nest (lawful_within signed_data lawful_signed_data.components 0xA0 (omega arith))
    (within_has_read signed_data c.args.nest 0xA0 c.in_ok-outer.ensures (alone_has_read signed_data c.args.nest c.in_ok-signed.ensures (omega (arith, c.left.ensures))) c.in_ok-end.ensures)
    (omega (arith, c.left-2.ensures, c.if-left-gt0-2.true))

pub returns : goal.returns
returns g c =
    alone_has_read (within 0xA0 signed_data) c.args.nest
    (within_has_read signed_data c.args.nest 0xA0 c.in_ok-outer.ensures (alone_has_read signed_data c.args.nest c.in_ok-signed.ensures (omega (arith, c.left.ensures))) c.in_ok-end.ensures)
    (omega (arith, c.left-2.ensures))
