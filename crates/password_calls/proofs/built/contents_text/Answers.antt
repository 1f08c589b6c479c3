use Rattle.std.specs.Prelude.{MatchResult}
use Rattle.std.proofs.Common.{subst, sym}
use Rattle.password_calls.proofs.BuiltTexts.{contents_built}
use Rattle.password_calls.proofs.built.contents_text.Goals as goal
use Rattle.password_calls.specs.Built.{HasBuilt}
use Rattle.password_calls.specs.NotBuilt.{IsNotBuilt}
use Rattle.password_calls.specs.declared.passwords.Holder.TheVariants as Holders
use Rattle.password_writers.specs.Values.{algorithm_value}
use Rattle.asn1_core.specs.Der.{option_value}

pub returns-in-Ok : goal.returns-in-Ok
returns-in-Ok c =
    let b = c.args.input.now in
    let row = c.args.row.now in
    subst (λ r. MatchResult r (λ t. HasBuilt Holders.Contents b row t.items) (λ wrong. IsNotBuilt Holders.Contents b row wrong)) (sym c.unless_refused.ensures)
    (contents_built b row (λ t. t.items) (algorithm_value c.in-Ok.contents.algorithm) c.write_encrypted_contents.result (option_value (λ o. o.now) c.in-Ok.contents.encrypted) c.in-Ok.ensures c.write_encrypted_contents.ensures)
