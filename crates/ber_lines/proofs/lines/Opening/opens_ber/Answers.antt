use Rattle.std.proofs.Common.{rules}
use Rattle.ber_lines.proofs.Whole.{none_opens}
use Rattle.ber_lines.proofs.lines.Opening.opens_ber.Goals as goal

pub returns-in-None : goal.returns-in-None
returns-in-None c =
    let none = none_opens c.args.self c.args.contents.now c.args.start c.in-None.ensures in
    search rules
