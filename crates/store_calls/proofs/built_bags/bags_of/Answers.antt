use Rattle.std.specs.Prelude.{◌<◌, length, map}
use Rattle.std.proofs.Common.{ap, arith}
use Rattle.std.proofs.lemmas.List.{length-map}
use Rattle.std.proofs.lemmas.Slice.Zip.{AllZip-long}
use Rattle.store_calls.proofs.BuiltBags.{all_give, bag_at}
use Rattle.call_values.proofs.BuiltLists.{all_at, one_more}
use Rattle.store_calls.specs.BuiltBags.{GivesBag, IsBagBy}
use Rattle.store_calls.specs.GivenBags.{IsChecked}
use Rattle.x509_base.specs.Names.{attribute_value}
use Rattle.store_calls.proofs.built_bags.bags_of.Goals as goal

pub bounds-sets-index : goal.bounds-sets-index
bounds-sets-index c =
    let sets = c.args.sets.now in
    let long = AllZip-long (IsChecked c.args.input.now) c.args.rows.now (map (λ set. map attribute_value set.items) sets) c.requires in
    omega (arith, c.loop-index-test.true, long, length-map sets (λ set. map attribute_value set.items))

pub loop-index-preserved : goal.loop-index-preserved
loop-index-preserved c =
    let sets = c.args.sets.now in
    let long = AllZip-long (IsChecked c.args.input.now) c.args.rows.now (map (λ set. map attribute_value set.items) sets) c.requires in
    let below : c.loop-index.index < length sets = omega (arith, c.loop-index-test.true, long, length-map sets (λ set. map attribute_value set.items)) in
    let bag = bag_at c.args.input.now (λ set. map attribute_value set.items) c.args.rows.now sets c.loop-index.index _ c.index-sets-index.result _ c.in-Ok.bag c.requires c.loop-index-test.true
    below c.index-sets-index.is (ap (map attribute_value) c.as_slice.ensures.value) c.in-Ok.ensures in
    one_more (IsBagBy c.args.input.now) c.args.rows.now c.loop-index.bags.items _ c.loop-index.index _ c.in-Ok.bag c.loop-index-test.true c.loop-index.invariant bag c.in_ok-push-in-Ok.ensures.items

pub returns-in-Err : goal.returns-in-Err
returns-in-Err c =
    let all = all_give c.args.input.now c.args.rows.now (map (λ set. map attribute_value set.items) c.args.sets.now) c.requires in
    absurd (c.in-Err.ensures (all_at (GivesBag c.args.input.now) c.args.rows.now c.loop-index.index _ all c.loop-index-test.true))
