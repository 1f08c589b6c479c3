use Rattle.std.specs.Prelude.{◌↔◌, IsTrue, true}
use Rattle.std.proofs.Common.{subst, sym}
use Rattle.store_writers.proofs.Normal.{data_test}
use Rattle.store_writers.specs.Written.{CONTENT, content_value}
use Rattle.store_writers.proofs.content.ContentDerSerialize.well_formed_at.Goals as goal

pub returns-in-Data : goal.returns-in-Data
returns-in-Data c =
    subst (λ y. IsTrue true ↔ CONTENT.format.IsWellFormed c.args.limit (content_value y)) (sym c.in-Data.is) (data_test c.args.limit c.in-Data._octets.now)
