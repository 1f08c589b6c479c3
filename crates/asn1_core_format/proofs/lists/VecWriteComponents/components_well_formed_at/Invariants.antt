use Rattle.std.proofs.Common.{◌↔◌, drop, map}
use Rattle.std.specs.List.{AllByRecursion}
use Rattle.asn1_core_format.proofs.lists.VecWriteComponents.components_well_formed_at.Given as goal

abbrev pub invariant-loop-item : goal.invariant-loop-item
invariant-loop-item g l =
    AllByRecursion (g.T.DerSerialize.format.IsWellFormed l.limit) (map g.T.DerSerialize.value (drop l.item-index l.item-items)) ↔ AllByRecursion (g.T.DerSerialize.format.IsWellFormed l.limit) (map g.T.DerSerialize.value l.item-items)
