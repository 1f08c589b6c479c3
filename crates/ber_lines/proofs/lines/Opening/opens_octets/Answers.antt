use Rattle.std.proofs.Common.{rules}
use Rattle.ber_lines.proofs.Items.{opens_there, opens_nowhere}
use Rattle.ber_lines.proofs.lines.Opening.opens_octets.Goals as goal
use Rattle.ber_lines.proofs.lines.Opening.opens_octets.Goals.{then-self, else-self}

pub returns-else-size-len : goal.returns-else-size-len
returns-else-size-len c =
    opens_there _ _ _ _ c.in-Some.ensures.found c.args.self c.args.start c.leads_into.result
    (λ all whole. (elim c.if-self.branch [ then-self w ↦ (let v = w.value-is in let f = c.if-size-len.false in search rules) | else-self w ↦ (let v = w.if-self.false in cc) ]))
    c.leads_into.ensures

pub returns-in-None : goal.returns-in-None
returns-in-None c = opens_nowhere c.args.self _ c.args.start _ c.in-None.ensures.none c.opens_ber.ensures
