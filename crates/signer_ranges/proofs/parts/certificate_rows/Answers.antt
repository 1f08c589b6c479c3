use Rattle.std.proofs.Common.{arith, length}
use Rattle.signer_ranges.proofs.FoundParts.{certificate_rows_are, no_certificate_rows}
use Rattle.signer_ranges.proofs.parts.certificate_rows.Goals as goal

pub returns-then-certificates-lt1 : goal.returns-then-certificates-lt1
returns-then-certificates-lt1 c = λ v is same. no_certificate_rows c.args.input.now v is (length c.args.certificates.now) same c.new.result.items c.new.ensures.items (omega (arith, c.if-certificates-lt1.true))

pub returns : goal.returns
returns c = λ v is same. certificate_rows_are c.args.input.now v is (length c.args.certificates.now) same (omega (arith, c.if-certificates-lt1.false)) (λ rows. rows.items) c.rows_by.result c.rows_by.ensures
