use Rattle.store_calls.proofs.GivenBags.{name_checked, wrong_name}
use Rattle.store_calls.proofs.built_bags.check_name_if.Goals as goal

pub returns-in-Ok : goal.returns-in-Ok
returns-in-Ok c = name_checked c.args.input.now c.args.row.now c.in-Ok.octets.now c.if-row-eq0.false c.in-Ok.ensures c.check_name.result c.check_name.ensures

pub returns-in-Err : goal.returns-in-Err
returns-in-Err c = wrong_name c.args.input.now c.args.row.now _ c.if-row-eq0.false c.in-Err.ensures
