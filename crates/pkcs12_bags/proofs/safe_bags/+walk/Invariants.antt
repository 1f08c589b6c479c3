use Rattle.std.proofs.Common.{◌≡◌, ◌++◌, map, drop}
use Rattle.pkcs12_bags.specs.BagValues.{bag_value}
use Rattle.pkcs12_bags.specs.BagWalks.{walk}
use Rattle.pkcs12_bags.proofs.safe_bags.+walk.Given as goal

abbrev pub invariant-bags::SafeContents::add_bags_to-loop-bag : goal.invariant-bags::SafeContents::add_bags_to-loop-bag
invariant-bags::SafeContents::add_bags_to-loop-bag l =
    map (λ bag. bag_value bag.now) l.bags.items ++ walk (map bag_value (drop l.bag-index l.bag-items))
    ≡ map (λ bag. bag_value bag.now) l.fn.bags.items ++ walk (map bag_value l.bag-items)
