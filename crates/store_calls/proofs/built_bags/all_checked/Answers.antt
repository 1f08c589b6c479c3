use Rattle.std.specs.Prelude.{map, take}
use Rattle.std.proofs.Common.{subst, sym}
use Rattle.store_calls.proofs.BuiltBags.{all_give}
use Rattle.call_values.proofs.BuiltLists.{not_at, one_more_seen}
use Rattle.store_calls.specs.BuiltBags.{GivesBag, IsWrongBag}
use Rattle.store_calls.specs.GivenBags.{IsChecked}
use Rattle.call_values.specs.BuiltLists.{IsNoList}
use Rattle.x509_base.specs.Names.{attribute_value}
use Rattle.store_calls.proofs.built_bags.all_checked.Goals as goal

pub returns-in-Err : goal.returns-in-Err
returns-in-Err c =
    let before = all_give c.args.input.now (take c.loop-index.index c.args.rows.now) _ c.loop-index.invariant in
    subst (IsNoList (GivesBag c.args.input.now) (IsWrongBag c.args.input.now) c.args.rows.now) (sym c.at.ensures)
    (not_at (GivesBag c.args.input.now) (IsWrongBag c.args.input.now) c.args.rows.now c.loop-index.index _ c.in-Err.wrong c.loop-index-test.true before c.in-Err.ensures)

pub loop-index-preserved : goal.loop-index-preserved
loop-index-preserved c =
    one_more_seen (IsChecked c.args.input.now) (λ set. map attribute_value set.items) c.args.rows.now c.loop-index.sets.items _ c.loop-index.index _ c.in-Ok.set
    c.loop-index-test.true c.loop-index.invariant c.in-Ok.ensures c.in_ok-push-in-Ok.ensures.items
