use Rattle.std.proofs.Common.{refl}
use Rattle.signed_writers.proofs.Refused.{first_at, not_so}
use Rattle.signed_writers.specs.Signed.{IsChoice}
use Rattle.signed_writers.proofs.checks.check_choices.Goals as goal

pub returns-then-not-is_choice : goal.returns-then-not-is_choice
returns-then-not-is_choice c =
    let none = not_so c.is_choice.result c.is_choice.ensures c.if-not-is_choice.true in
    (refl, refl, first_at IsChoice (λ x. x.0.now) c.args.elements.now c.loop-index.index _ c.loop-index-test.true none c.loop-index.invariant)
