use Rattle.std.proofs.Common.{arith}
use Rattle.ber_lines.proofs.Ends.{leaves_last}
use Rattle.ber_lines.proofs.walk.Walk.innermost.Goals as goal

pub loop-contents-preserved : goal.loop-contents-preserved
loop-contents-preserved c =
    let i = c.loop-contents.invariant in
    let last = rw c.deref.ensures.value at c.in-Some.ensures.value in
    (i.0, i.1, i.2, leaves_last _ _ _ _ _ c.pop.result i.3 c.pop.ensures.items last (omega (arith, c.if-contents-self.false, i.2)) c.if-contents.false)
