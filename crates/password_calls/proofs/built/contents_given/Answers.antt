use Rattle.std.proofs.Common.{rules}
use Rattle.password_calls.proofs.WrongParts.{wrong_contents, wrong_in_contents}
use Rattle.password_calls.proofs.built.contents_given.Goals as goal

pub returns-in_err-algorithm : goal.returns-in_err-algorithm
returns-in_err-algorithm c = let both = wrong_in_contents c.args.input.now c.args.row.now _ c.in_err-algorithm.ensures in search rules

pub returns-in_err-encrypted : goal.returns-in_err-encrypted
returns-in_err-encrypted c = let both = wrong_contents c.args.input.now c.args.row.now _ c.in_err-encrypted.ensures in search rules
