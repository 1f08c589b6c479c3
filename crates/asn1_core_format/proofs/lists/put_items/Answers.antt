use Rattle.std.proofs.Common.{rules, arith}
use Rattle.asn1_core_format.proofs.ItemWrites.{forward_refused}
use Rattle.asn1_core_format.proofs.lists.put_items.Goals as goal

pub returns-in_err-put : goal.returns-in_err-put
returns-in_err-put g c =
    let r = forward_refused g.T.DerSerialize.format.text g.T.DerSerialize.value g.W.Writer.Takes (g.met.W.Writer.forward c.requires.forward) c.args.items.now c.loop-item.item-index c.item-item.result _ _ _ tt _ (omega arith) c.item-item.is c.loop-item.invariant.0 c.in_err-put.ensures in
    search rules
