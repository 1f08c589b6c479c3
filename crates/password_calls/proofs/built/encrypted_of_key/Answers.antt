use Rattle.password_calls.proofs.WrongParts.{key_there}
use Rattle.password_calls.proofs.built.encrypted_of_key.Goals as goal

pub returns : goal.returns
returns c = key_there c.args.input.now c.args.row.now (λ x. x.now) c.part_of.result c.if-row-eq0.false c.part_of.ensures
