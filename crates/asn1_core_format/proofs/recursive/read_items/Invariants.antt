use Rattle.std.proofs.Common.{length, map}
use Rattle.asn1_core_format.specs.Levels.{less_if}
use Rattle.asn1_core_format.specs.Lists.{HasReadItems}
use Rattle.asn1_core_format.proofs.recursive.read_items.Given as goal

abbrev pub invariant-items : goal.invariant-items
invariant-items g l = HasReadItems (less_if g.L.ItemLevel.below g.T.DerSerialize.format) l.nest l.fn.r l.r (map g.T.DerSerialize.value l.items.items)

abbrev pub decreases-items : goal.decreases-items
decreases-items g l = length l.r.left
