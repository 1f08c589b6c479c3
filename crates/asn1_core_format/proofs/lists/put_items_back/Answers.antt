use Rattle.std.proofs.Common.{rules, arith, ◌-◌}
use Rattle.asn1_core_format.proofs.ItemWrites.{backward_refused}
use Rattle.asn1_core_format.proofs.lists.put_items_back.Goals as goal

pub returns-in_err-put : goal.returns-in_err-put
returns-in_err-put g c =
    let r = backward_refused g.T.DerSerialize.format.text g.T.DerSerialize.value g.W.Writer.Takes g.W.Writer.count (g.met.W.Writer.backward c.requires.backward) c.args.items.now c.loop-left.left (c.loop-left.left - 1) c.index-items-left.result _ _ _ tt _ (omega (arith, c.loop-left-test.true)) (omega (arith, c.loop-left.invariant.1.1, c.loop-left-test.true)) c.index-items-left.is c.loop-left.invariant.0 c.in_err-put.ensures in
    search rules
