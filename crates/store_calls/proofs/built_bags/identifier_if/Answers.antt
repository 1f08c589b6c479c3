use Rattle.std.proofs.Common.{rules}
use Rattle.store_calls.proofs.GivenBags.{no_oid}
use Rattle.store_calls.proofs.built_bags.identifier_if.Goals as goal

pub returns-in_err-id : goal.returns-in_err-id
returns-in_err-id c = let both = no_oid c.args.input.now c.args.row.now _ c.if-row-ne0.false c.in_err-id.ensures in search rules
