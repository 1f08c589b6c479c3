use Rattle.std.proofs.Common.{arith, rules, map}
use Rattle.bag_ranges.proofs.InBags.{list_in, one_level}
use Rattle.bag_ranges.proofs.Rows.{all_of_them, no_rows, none_of_one, one_more, one_there}
use Rattle.bag_ranges.specs.BagRoutes.{BAG}
use Rattle.bag_ranges.specs.Bags.{AreBags, AreOfBag, InOrder}
use Rattle.x509_pkcs12.specs.RawBags.{raw_safe_bag_value}
use Rattle.bag_ranges.proofs.bags.+rows.Goals as goal

pub push_all-push_bag-requires : goal.push_all-push_bag-requires
push_all-push_bag-requires m c =
    let so_far = c.loop-bag.invariant in (
      omega (arith, c.decreases),
      one_there (AreOfBag (AreBags c.args.below c.args.input.now) c.args.below c.args.input.now) BAG.format BAG.law raw_safe_bag_value c.args.bags.now c.args.input.now c.args.list.now.start c.args.list.now.end c.args.rows.now.items
          c.loop-bag.bag-index c.loop-bag.start c.loop-bag.rows.items c.bag-item.result c.loop-bag-test.true c.bag-item.is so_far c.first_element-place.result (c.first_element-place.ensures so_far.inside.0 so_far.inside.1),
    )

pub push_all-returns-in_err-push_bag : goal.push_all-returns-in_err-push_bag
push_all-returns-in_err-push_bag m c =
    no_rows (InOrder (AreOfBag (AreBags c.args.below c.args.input.now) c.args.below c.args.input.now) (map raw_safe_bag_value c.args.bags.now)) _ _ _ _ c.from_residual.result c.in_err-push_bag.field-0.0 (search rules)
    (none_of_one (AreOfBag (AreBags c.args.below c.args.input.now) c.args.below c.args.input.now) raw_safe_bag_value c.args.bags.now c.loop-bag.bag-index c.bag-item.result c.in_err-push_bag.field-0.0 c.loop-bag-test.true c.bag-item.is c.in_err-push_bag.ensures)

pub push_all-loop-bag-preserved : goal.push_all-loop-bag-preserved
push_all-loop-bag-preserved m c =
    let so_far = c.loop-bag.invariant in
    one_more (AreOfBag (AreBags c.args.below c.args.input.now) c.args.below c.args.input.now) BAG.format BAG.law raw_safe_bag_value c.args.bags.now c.args.input.now c.args.list.now.start c.args.list.now.end c.args.rows.now.items
    c.loop-bag.bag-index c.loop-bag.start c.loop-bag.rows.items c.bag-item.result c.loop-bag-test.true c.bag-item.is so_far c.first_element-place.result (c.first_element-place.ensures so_far.inside.0 so_far.inside.1)
    c.push_bag.new.rows.items c.in_ok-push_bag.ensures

pub push_all-returns : goal.push_all-returns
push_all-returns m c =
    all_of_them (AreOfBag (AreBags c.args.below c.args.input.now) c.args.below c.args.input.now) BAG.format BAG.law raw_safe_bag_value c.args.bags.now c.args.input.now c.args.list.now.start c.args.list.now.end c.args.rows.now.items
    c.loop-bag.bag-index c.loop-bag.start c.loop-bag.rows.items c.loop-bag-test.false c.loop-bag.invariant

pub push_bags-push_all-requires : goal.push_bags-push_all-requires
push_bags-push_all-requires m c =
    let at = list_in c.args.input.now (map raw_safe_bag_value c.args.bags.now) c.args.place.now c.bags_in-list.result c.requires c.bags_in-list.ensures in
    (omega (arith, c.decreases, c.if-levels-eq0.false), at.is)

pub push_bags-returns : goal.push_bags-returns
push_bags-returns m c =
    one_level c.args.input.now (map raw_safe_bag_value c.args.bags.now) c.args.levels c.args.place.now.start c.args.place.now.end c.bags_in-list.result c.args.rows.now.items c.push_all.new.rows.items
    (omega (arith, c.if-levels-eq0.false))
    (list_in c.args.input.now (map raw_safe_bag_value c.args.bags.now) c.args.place.now c.bags_in-list.result c.requires c.bags_in-list.ensures)
    c.in_ok-push_all.ensures
