use Rattle.std.proofs.Common.{rules}
use Rattle.ber_lines.proofs.Whole.{longer_whole}
use Rattle.ber_lines.proofs.lines.whole_ber.Goals as goal

pub returns-in-Longer : goal.returns-in-Longer
returns-in-Longer c =
    longer_whole c.args.bytes.now c.first_of_ber-front.result.2.now c.first_of_ber-front.result.0 c.in-Longer.field-0 c.first_of_ber-front.result.1 _ c.in-Longer.is c.first_of_ber-front.ensures.item (search rules)
