use Rattle.std.proofs.Common.{◌≡◌, map, drop}
use Rattle.std.specs.List.{find}
use Rattle.pkcs12_bags.specs.BagValues.{bag_value}
use Rattle.pkcs12_bags.specs.Selections.{has_key_id}
use Rattle.pkcs12_bags.proofs.safe_bags.selections.first_with_key_id.Given as goal

abbrev pub invariant-loop-bag : goal.invariant-loop-bag
invariant-loop-bag l =
    find (has_key_id l.id) (map (λ bag. bag_value bag.now) (drop l.bag-index l.bags))
    ≡ find (has_key_id l.id) (map (λ bag. bag_value bag.now) l.bags)
