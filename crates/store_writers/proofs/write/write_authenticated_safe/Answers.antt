use Rattle.std.specs.Prelude.{map}
use Rattle.store_writers.proofs.Normal.{safe_result}
use Rattle.store_writers.specs.Written.{content_value}
use Rattle.store_writers.proofs.write.write_authenticated_safe.Goals as goal

pub returns : goal.returns
returns c = safe_result (λ v. v.items) (map content_value c.args.contents.items) c.write.result c.write.ensures
