use Rattle.std.proofs.Common.{rules}
use Rattle.password_calls.proofs.WrongParts.{wrong_length, wrong_pbkdf2_count, wrong_pbkdf2_salt, wrong_prf}
use Rattle.password_calls.proofs.built.pbkdf2_of.Goals as goal

pub returns-in_err-salt : goal.returns-in_err-salt
returns-in_err-salt c = let both = wrong_pbkdf2_salt c.args.input.now c.args.row.now _ c.in_err-salt.ensures in search rules

pub returns-in_err-iterations : goal.returns-in_err-iterations
returns-in_err-iterations c = let both = wrong_pbkdf2_count c.args.input.now c.args.row.now _ c.in_err-iterations.ensures in search rules

pub returns-in_err-key_length : goal.returns-in_err-key_length
returns-in_err-key_length c = let both = wrong_length c.args.input.now c.args.row.now _ c.in_err-key_length.ensures in search rules

pub returns-in_err-prf : goal.returns-in_err-prf
returns-in_err-prf c = let both = wrong_prf c.args.input.now c.args.row.now _ c.in_err-prf.ensures in search rules
