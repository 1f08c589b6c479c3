-- All bags of a list, those in bags too: a bag comes before the bags in it, and these before the next bag.
use Rattle.std.specs.Prelude.{List, [], ◌∷◌, ◌++◌}
use Rattle.std.specs.List.{flat_map}
use Rattle.pkcs12_bags.specs.Bags.{Bag, holder, plain, Bags, no_bags, more_bags}

abbrev mutual
  pub bag_walk : Bag → List Bag
  bag_walk (holder bs n) = holder bs n ∷ bags_walk bs
  bag_walk (plain p) = plain p ∷ []

  pub bags_walk : Bags → List Bag
  bags_walk no_bags = []
  bags_walk (more_bags b bs) = bag_walk b ++ bags_walk bs

abbrev pub walk : List Bag → List Bag
walk = flat_map bag_walk
