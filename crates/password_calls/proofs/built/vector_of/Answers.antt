use Rattle.std.proofs.Common.{rules}
use Rattle.password_calls.proofs.WrongParts.{wrong_vector, wrong_vector_oid}
use Rattle.password_calls.proofs.built.vector_of.Goals as goal

pub returns-in_err-algorithm : goal.returns-in_err-algorithm
returns-in_err-algorithm c = let both = wrong_vector_oid c.args.input.now c.args.row.now _ c.in_err-algorithm.ensures in search rules

pub returns-in_err-vector : goal.returns-in_err-vector
returns-in_err-vector c = let both = wrong_vector c.args.input.now c.args.row.now _ c.in_err-vector.ensures in search rules
