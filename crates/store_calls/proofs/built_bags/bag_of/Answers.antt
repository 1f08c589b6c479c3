use Rattle.std.proofs.Common.{rules}
use Rattle.store_calls.proofs.GivenBags.{no_held, no_key_id, no_name}
use Rattle.store_calls.proofs.built_bags.bag_of.Goals as goal

pub returns-in_err-held : goal.returns-in_err-held
returns-in_err-held c = let none = no_held c.args.input.now c.args.row.now c.in_err-held.ensures.1 in search rules

pub returns-in_err-friendly_name : goal.returns-in_err-friendly_name
returns-in_err-friendly_name c = let none = no_name c.args.input.now c.args.row.now c.in_err-friendly_name.ensures.1 in search rules

pub returns-in_err-local_key_id : goal.returns-in_err-local_key_id
returns-in_err-local_key_id c = let none = no_key_id c.args.input.now c.args.row.now c.in_err-local_key_id.ensures.1 in search rules
