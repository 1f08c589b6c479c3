use Rattle.std.specs.Prelude.{MatchResult}
use Rattle.std.proofs.Common.{subst, sym}
use Rattle.password_calls.proofs.BuiltTexts.{key_built}
use Rattle.password_calls.proofs.built.key_text.Goals as goal
use Rattle.password_calls.specs.Built.{HasBuilt}
use Rattle.password_calls.specs.NotBuilt.{IsNotBuilt}
use Rattle.password_calls.specs.declared.passwords.Holder.TheVariants as Holders
use Rattle.password_writers.specs.Values.{algorithm_value}

pub returns-in-Ok : goal.returns-in-Ok
returns-in-Ok c =
    let b = c.args.input.now in
    let row = c.args.row.now in
    subst (λ r. MatchResult r (λ t. HasBuilt Holders.Key b row t.items) (λ wrong. IsNotBuilt Holders.Key b row wrong)) (sym c.unless_refused.ensures)
    (key_built b row (λ t. t.items) (algorithm_value c.in-Ok.key.algorithm) c.write_encrypted_key.result c.in-Ok.key.encrypted.now c.in-Ok.ensures c.write_encrypted_key.ensures)
