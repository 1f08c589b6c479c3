use Rattle.std.proofs.Common.{drop, map, length, Ok, ◌≤◌}
use Rattle.std.specs.List.{flat_map}
use Rattle.asn1_core_format.proofs.lists.put_items_back.Given as goal

abbrev pub invariant-loop-left : goal.invariant-loop-left
invariant-loop-left g l = g.W.Writer.Takes (flat_map g.T.DerSerialize.format.text (map g.T.DerSerialize.value (drop l.left l.items))) l.fn.w l.w (Ok tt) × (g.W.Writer.MayTake l.w × (l.left ≤ length l.items))

abbrev pub decreases-loop-left : goal.decreases-loop-left
decreases-loop-left g l = l.left
