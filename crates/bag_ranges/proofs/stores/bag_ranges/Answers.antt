use Rattle.bag_ranges.proofs.InStores.{is_refused}
use Rattle.bag_ranges.proofs.stores.bag_ranges.Goals as goal

pub returns-in-Ok : goal.returns-in-Ok
returns-in-Ok c =
    is_refused c.args.input.now _ c.in-Err-rows_of_store.refusal c.in_input.result c.in-Ok.ensures c.in-Err-rows_of_store.ensures c.in_input.ensures
