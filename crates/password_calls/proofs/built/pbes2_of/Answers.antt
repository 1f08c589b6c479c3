use Rattle.std.proofs.Common.{rules}
use Rattle.password_calls.proofs.WrongParts.{wrong_pbes2_derivation, wrong_pbes2_encryption}
use Rattle.password_calls.proofs.built.pbes2_of.Goals as goal

pub returns-in_err-derivation : goal.returns-in_err-derivation
returns-in_err-derivation c = let both = wrong_pbes2_derivation c.args.input.now c.args.row.now _ c.in_err-derivation.ensures in search rules

pub returns-in_err-encryption : goal.returns-in_err-encryption
returns-in_err-encryption c = let both = wrong_pbes2_encryption c.args.input.now c.args.row.now _ c.in_err-encryption.ensures in search rules
