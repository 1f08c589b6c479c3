use Rattle.std.proofs.Common.{rules}
use Rattle.password_calls.proofs.WrongParts.{wrong_count, wrong_flag, wrong_kind, wrong_oid, wrong_salt}
use Rattle.password_calls.proofs.built.salted_of.Goals as goal

pub returns-in_err-algorithm : goal.returns-in_err-algorithm
returns-in_err-algorithm g c = let both = wrong_oid c.args.input.now c.args.row.now g.K.OidTable.table _ c.in_err-algorithm.ensures in search rules

pub returns-then-row-eq0 : goal.returns-then-row-eq0
returns-then-row-eq0 g c = wrong_flag c.args.input.now c.args.row.now g.K.OidTable.table c.if-row-eq0.true

pub returns-in_err-salt : goal.returns-in_err-salt
returns-in_err-salt g c = let both = wrong_salt c.args.input.now c.args.row.now g.K.OidTable.table _ c.in_err-salt.ensures in search rules

pub returns-in_err-iterations : goal.returns-in_err-iterations
returns-in_err-iterations g c = let both = wrong_count c.args.input.now c.args.row.now g.K.OidTable.table _ c.in_err-iterations.ensures in search rules

pub returns-in_default : goal.returns-in_default
returns-in_default g c =
    wrong_kind c.args.input.now c.args.row.now g.K.OidTable.table g.met.K.OidTable.is_table c.in_ok-algorithm.algorithm.now c.in_ok-algorithm.ensures c.in_default.ensures
