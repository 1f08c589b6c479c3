use Rattle.std.proofs.Common.{rules}
use Rattle.store_calls.proofs.BuiltStores.{wrong_range, wrong_safe}
use Rattle.store_calls.proofs.built_stores.safe_of.Goals as goal

pub returns-in-Err : goal.returns-in-Err
returns-in-Err c = wrong_range c.args.input.now c.args.row.now _ c.in-Err.ensures

pub returns-in_err-_contents-in-Ok : goal.returns-in_err-_contents-in-Ok
returns-in_err-_contents-in-Ok c =
    let both = wrong_safe c.args.input.now c.args.row.now c.in-Ok.octets.now _ c.in-Ok.ensures c.in_err-_contents-in-Ok.ensures in
    search rules
