use Rattle.std.specs.List.{AllZip}
use Rattle.std.proofs.Common.{subst, sym}
use Rattle.store_calls.proofs.BuiltBags.{not_built}
use Rattle.store_calls.specs.BuiltBags.{IsBagBy}
use Rattle.store_calls.proofs.built_bags.bags_text.Goals as goal

pub returns : goal.returns
returns c =
    let are = subst (AllZip (IsBagBy c.args.input.now) c.args.rows.now) (sym c.as_slice-2.ensures.value) c.in_ok-bags.ensures in
    not_built c.args.input.now c.args.rows.now c.as_slice-2.result.now are c.in-Err.error c.in-Err.ensures
