use Rattle.store_calls.proofs.GivenBags.{no_value, value_checked}
use Rattle.store_calls.proofs.built_bags.check_value.Goals as goal

pub returns-in-Ok : goal.returns-in-Ok
returns-in-Ok c = value_checked c.args.input.now c.args.row.now c.in-Ok.held c.in-Ok.ensures c.check_held.result c.check_held.ensures

pub returns-in-Err : goal.returns-in-Err
returns-in-Err c = no_value c.args.input.now c.args.row.now _ c.in-Err.ensures
