use Rattle.std.specs.Prelude.{MatchResult}
use Rattle.std.proofs.Common.{subst, sym}
use Rattle.password_calls.proofs.BuiltTexts.{algorithm_built}
use Rattle.password_calls.proofs.built.algorithm_text.Goals as goal
use Rattle.password_calls.specs.Built.{HasBuilt}
use Rattle.password_calls.specs.NotBuilt.{IsNotBuilt}
use Rattle.password_calls.specs.declared.passwords.Holder.TheVariants as Holders
use Rattle.password_writers.specs.Values.{algorithm_value}

pub returns-in-Ok : goal.returns-in-Ok
returns-in-Ok c =
    let b = c.args.input.now in
    let row = c.args.row.now in
    subst (λ r. MatchResult r (λ t. HasBuilt Holders.Algorithm b row t.items) (λ wrong. IsNotBuilt Holders.Algorithm b row wrong)) (sym c.unless_refused.ensures)
    (algorithm_built b row (λ t. t.items) (algorithm_value c.in-Ok.algorithm) c.write_algorithm.result c.in-Ok.ensures c.write_algorithm.ensures)
