use Rattle.std.proofs.Common.{◌↔◌, drop, map}
use Rattle.std.specs.List.{AllByRecursion}
use Rattle.asn1_core.specs.Der.{each}
use Rattle.pkcs12_bags.specs.Bags.{safe_bag}
use Rattle.pkcs12_bags.specs.BagValues.{bag_value}
use Rattle.pkcs12_bags.proofs.safe_bags.bags.+formed.Given as goal

abbrev pub invariant-SafeContentsDerSerialize::well_formed_at-loop-bag : goal.invariant-SafeContentsDerSerialize::well_formed_at-loop-bag
invariant-SafeContentsDerSerialize::well_formed_at-loop-bag l = AllByRecursion (safe_bag.IsWellFormed l.limit) (map bag_value (drop l.bag-index l.bag-items)) ↔ (each safe_bag).IsWellFormed l.limit (map bag_value l.bag-items)
