use Rattle.std.proofs.Common.{rules}
use Rattle.store_calls.proofs.GivenBags.{wrong_id, wrong_kind, wrong_value}
use Rattle.store_calls.proofs.built_bags.held_of.Goals as goal

pub returns-then-row-gt6 : goal.returns-then-row-gt6
returns-then-row-gt6 c = wrong_kind c.args.input.now c.args.row.now c.if-row-gt6.true

pub returns-in_err-id : goal.returns-in_err-id
returns-in_err-id c = let r = wrong_id c.args.input.now c.args.row.now _ c.in_err-id.ensures in search rules

pub returns-in_err-element : goal.returns-in_err-element
returns-in_err-element c = let r = wrong_value c.args.input.now c.args.row.now _ c.in_err-element.ensures in search rules
