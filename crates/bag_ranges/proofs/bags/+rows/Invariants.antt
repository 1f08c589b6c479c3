use Rattle.std.proofs.Common.{◌+◌, ◌*◌}
use Rattle.bag_ranges.proofs.Rows.{SoFar}
use Rattle.bag_ranges.specs.BagRoutes.{BAG}
use Rattle.bag_ranges.specs.Bags.{AreBags, AreOfBag}
use Rattle.x509_pkcs12.specs.RawBags.{raw_safe_bag_value}
use Rattle.bag_ranges.proofs.bags.+rows.Given as goal

abbrev pub invariant-push_all-loop-bag : goal.invariant-push_all-loop-bag
invariant-push_all-loop-bag l =
    SoFar (AreOfBag (AreBags l.below l.input) l.below l.input) BAG.format BAG.law raw_safe_bag_value l.bags l.input l.list.start l.list.end l.fn.rows.items l.bag-index l.start l.rows.items

abbrev pub decreases-push_bag : goal.decreases-push_bag
decreases-push_bag l = 4 * l.below + 2

abbrev pub decreases-push_inside : goal.decreases-push_inside
decreases-push_inside l = 4 * l.below + 1

abbrev pub decreases-push_bags : goal.decreases-push_bags
decreases-push_bags l = 4 * l.levels

abbrev pub decreases-push_all : goal.decreases-push_all
decreases-push_all l = 4 * l.below + 3
