use Rattle.std.proofs.Common.{rules}
use Rattle.store_calls.proofs.BuiltStores.{wrong_algorithm, wrong_count, wrong_digest, wrong_salt}
use Rattle.store_calls.proofs.built_stores.mac_parts.Goals as goal

pub returns-in_err-algorithm : goal.returns-in_err-algorithm
returns-in_err-algorithm c = let both = wrong_algorithm c.args.input.now c.args.row.now _ c.in_err-algorithm.ensures in search rules

pub returns-in_err-digest : goal.returns-in_err-digest
returns-in_err-digest c = let both = wrong_digest c.args.input.now c.args.row.now _ c.in_err-digest.ensures in search rules

pub returns-in_err-salt : goal.returns-in_err-salt
returns-in_err-salt c = let both = wrong_salt c.args.input.now c.args.row.now _ c.in_err-salt.ensures in search rules

pub returns-in_err-iterations : goal.returns-in_err-iterations
returns-in_err-iterations c = let both = wrong_count c.args.input.now c.args.row.now _ c.in_err-iterations.ensures in search rules
