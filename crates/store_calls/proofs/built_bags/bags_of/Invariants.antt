use Rattle.std.specs.Prelude.{take}
use Rattle.std.specs.List.{AllZip}
use Rattle.store_calls.specs.BuiltBags.{IsBagBy}
use Rattle.store_calls.proofs.built_bags.bags_of.Given as goal

abbrev pub invariant-loop-index : goal.invariant-loop-index
invariant-loop-index l = AllZip (IsBagBy l.input) (take l.index l.rows) l.bags.items
