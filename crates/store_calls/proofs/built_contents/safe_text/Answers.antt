use Rattle.std.specs.Prelude.{map}
use Rattle.store_calls.proofs.BuiltContents.{not_built}
use Rattle.store_writers.specs.Written.{content_value}
use Rattle.store_calls.proofs.built_contents.safe_text.Goals as goal

pub returns-in-Err : goal.returns-in-Err
returns-in-Err c =
    not_built c.args.input.now c.args.rows.now (map content_value c.in_ok-contents.contents.items) c.in-Err.error c.in_ok-contents.ensures c.in-Err.ensures
