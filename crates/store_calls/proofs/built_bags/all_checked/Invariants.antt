use Rattle.std.specs.Prelude.{map, take}
use Rattle.std.specs.List.{AllZip}
use Rattle.store_calls.specs.GivenBags.{IsChecked}
use Rattle.x509_base.specs.Names.{attribute_value}
use Rattle.store_calls.proofs.built_bags.all_checked.Given as goal

abbrev pub invariant-loop-index : goal.invariant-loop-index
invariant-loop-index l = AllZip (IsChecked l.input) (take l.index l.rows) (map (λ set. map attribute_value set.items) l.sets.items)
