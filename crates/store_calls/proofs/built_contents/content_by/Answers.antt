use Rattle.store_calls.proofs.BuiltContents.{content_read}
use Rattle.store_writers.specs.Written.{content_value}
use Rattle.store_calls.proofs.built_contents.content_by.Goals as goal

pub returns-in-Ok : goal.returns-in-Ok
returns-in-Ok c = content_read c.args.input.now content_value c.args.row.now c.in-Ok.octets.now c.in-Ok.ensures c.content_of.result c.content_of.ensures
