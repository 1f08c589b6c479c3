use Rattle.store_calls.proofs.BuiltStores.{wrong_mac}
use Rattle.store_calls.proofs.built_stores.mac_if.Goals as goal

pub returns-in-Err : goal.returns-in-Err
returns-in-Err c = wrong_mac c.args.input.now c.args.row.now _ c.if-row-eq0.false c.in-Err.ensures
