use Rattle.store_calls.proofs.GivenBags.{wrong_key_id}
use Rattle.store_calls.proofs.built_bags.check_key_id_if.Goals as goal

pub returns-in-Err : goal.returns-in-Err
returns-in-Err c = wrong_key_id c.args.input.now c.args.row.now _ c.in-Err.ensures
