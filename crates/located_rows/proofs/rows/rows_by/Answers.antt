use Rattle.located_rows.proofs.RowSteps.{there}
use Rattle.located_rows.proofs.rows.rows_by.Goals as goal

pub returns-in-Some : goal.returns-in-Some
returns-in-Some g c = there g.T.Row.is_row c.args.list.now c.args.start c.args.octets.now c.in-Some.place.start c.in-Some.place.octets.now c.in-Some.ensures.0 (λ rows. rows.items) c.rows_from.result c.rows_from.ensures
