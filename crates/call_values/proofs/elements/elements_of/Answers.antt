use Rattle.std.specs.Prelude.{take}
use Rattle.call_values.proofs.BuiltLists.{one_more_seen}
use Rattle.call_values.proofs.GivenElements.{all_there, none_at}
use Rattle.call_values.specs.Given.{IsPartOf}
use Rattle.call_values.specs.Read.{HasOne}
use Rattle.call_values.proofs.elements.elements_of.Goals as goal

pub returns-in-Err : goal.returns-in-Err
returns-in-Err c =
    let before = all_there c.args.input.now (take c.loop-index.index c.args.parts.now) _ c.loop-index.invariant in
    none_at (λ part. HasOne (IsPartOf c.args.input.now part)) c.args.parts.now c.loop-index.index _ c.loop-index-test.true before
    (λ one. c.in-Err.ensures.1 one.0 one.1)

pub loop-index-preserved : goal.loop-index-preserved
loop-index-preserved c =
    one_more_seen (IsPartOf c.args.input.now) (λ x. x.0.now) c.args.parts.now c.loop-index.all.items _ c.loop-index.index _ _
    c.loop-index-test.true c.loop-index.invariant c.in-Ok.ensures c.in_ok-push-in-Ok.ensures.items
