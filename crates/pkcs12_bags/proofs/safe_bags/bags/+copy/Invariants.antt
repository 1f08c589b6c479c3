use Rattle.std.proofs.Common.{◌≡◌, take, map}
use Rattle.pkcs12_bags.specs.BagValues.{bag_value}
use Rattle.pkcs12_bags.proofs.safe_bags.bags.+copy.Given as goal

abbrev pub invariant-SafeContentsTryClone::try_clone-loop-bag : goal.invariant-SafeContentsTryClone::try_clone-loop-bag
invariant-SafeContentsTryClone::try_clone-loop-bag l = map bag_value l.bags.items ≡ map bag_value (take l.bag-index l.bag-items)
