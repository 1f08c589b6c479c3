use Rattle.std.specs.Prelude.{map, take}
use Rattle.std.specs.List.{AllByRecursion}
use Rattle.std.proofs.Common.{◌+◌, ◌*◌}
use Rattle.store_calls.specs.Levels.{HasLevels, IsLevel}
use Rattle.x509_pkcs12.specs.RawBags.{raw_safe_bag_value}
use Rattle.store_calls.proofs.nested.+levels.Given as goal

abbrev pub invariant-check_bags-loop-bag : goal.invariant-check_bags-loop-bag
invariant-check_bags-loop-bag l = AllByRecursion (IsLevel (HasLevels l.below)) (map raw_safe_bag_value (take l.bag-index l.bags))

abbrev pub decreases-check_levels : goal.decreases-check_levels
decreases-check_levels l = 3 * l.levels

abbrev pub decreases-check_bags : goal.decreases-check_bags
decreases-check_bags l = 3 * l.below + 2

abbrev pub decreases-check_bag : goal.decreases-check_bag
decreases-check_bag l = 3 * l.below + 1
