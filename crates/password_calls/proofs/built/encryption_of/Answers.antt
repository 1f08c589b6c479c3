use Rattle.std.proofs.Common.{rules}
use Rattle.password_calls.proofs.WrongParts.{wrong_encryption, wrong_encryption_vector}
use Rattle.password_calls.proofs.built.encryption_of.Goals as goal

pub returns-in_err-vector_of : goal.returns-in_err-vector_of
returns-in_err-vector_of c = let both = wrong_encryption_vector c.args.input.now c.args.row.now _ c.if-row-ne0.true c.in_err-vector_of.ensures in search rules

pub returns-in_err-other_of : goal.returns-in_err-other_of
returns-in_err-other_of c = let both = wrong_encryption c.args.input.now c.args.row.now _ c.if-row-ne0.false c.in_err-other_of.ensures in search rules
