use Rattle.located_rows.proofs.RowSteps.{leads_nowhere, leads_there}
use Rattle.located_rows.proofs.rows.range_from.Goals as goal

pub returns-in-Some : goal.returns-in-Some
returns-in-Some c = leads_there c.args.steps.now c.args.start c.args.octets.now c.in-Some.place.start c.in-Some.place.octets.now c.in-Some.ensures.0

pub returns-in-None : goal.returns-in-None
returns-in-None c = leads_nowhere c.args.steps.now c.args.start c.args.octets.now c.in-None.ensures
