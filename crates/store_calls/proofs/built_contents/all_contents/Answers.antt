use Rattle.std.specs.Prelude.{slice_index_or, take}
use Rattle.call_values.proofs.GivenParts.{of_any}
use Rattle.std.proofs.Common.{subst, sym}
use Rattle.store_calls.proofs.BuiltContents.{all_give}
use Rattle.call_values.proofs.BuiltLists.{not_at, one_more_seen}
use Rattle.store_calls.specs.BuiltContents.{GivesContent, IsContentBy, any_part}
use Rattle.call_values.specs.BuiltLists.{IsNoList}
use Rattle.store_writers.specs.Written.{content_value}
use Rattle.store_calls.proofs.built_contents.all_contents.Goals as goal

pub returns-in-Err : goal.returns-in-Err
returns-in-Err c =
    let before = all_give c.args.input.now (take c.loop-index.index c.args.rows.now) _ c.loop-index.invariant in
    subst (IsNoList (GivesContent c.args.input.now) any_part c.args.rows.now) (sym c.at.ensures)
    (not_at (GivesContent c.args.input.now) any_part c.args.rows.now c.loop-index.index _ c.in-Err.wrong c.loop-index-test.true before (of_any (GivesContent c.args.input.now (slice_index_or c.args.rows.now c.loop-index.index _)) c.in-Err.wrong c.in-Err.ensures))

pub loop-index-preserved : goal.loop-index-preserved
loop-index-preserved c =
    one_more_seen (IsContentBy c.args.input.now) content_value c.args.rows.now c.loop-index.all.items _ c.loop-index.index _ c.in-Ok.content
    c.loop-index-test.true c.loop-index.invariant c.in-Ok.ensures c.in_ok-push-in-Ok.ensures.items
