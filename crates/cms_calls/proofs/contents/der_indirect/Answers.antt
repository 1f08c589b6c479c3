use Rattle.cms_calls.proofs.ContentRows.{indirect_refused}
use Rattle.cms_calls.proofs.contents.der_indirect.Goals as goal

pub returns-in-Err : goal.returns-in-Err
returns-in-Err c = indirect_refused c.args.input.now c.in-Err.refusal c.place_of.result c.status_of_refusal.result c.place_of.ensures c.status_of_refusal.ensures c.in-Err.ensures
