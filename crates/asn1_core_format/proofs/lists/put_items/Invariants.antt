use Rattle.std.proofs.Common.{take, map, Ok}
use Rattle.std.specs.List.{flat_map}
use Rattle.asn1_core_format.proofs.lists.put_items.Given as goal

abbrev pub invariant-loop-item : goal.invariant-loop-item
invariant-loop-item g l = g.W.Writer.Takes (flat_map g.T.DerSerialize.format.text (map g.T.DerSerialize.value (take l.item-index l.items))) l.fn.w l.w (Ok tt) × g.W.Writer.MayTake l.w
