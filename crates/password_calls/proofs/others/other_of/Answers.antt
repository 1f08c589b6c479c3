use Rattle.std.proofs.Common.{rules}
use Rattle.password_calls.proofs.OtherParts.{wrong_oid, wrong_element}
use Rattle.password_calls.proofs.others.other_of.Goals as goal

pub returns-in_err-oid : goal.returns-in_err-oid
returns-in_err-oid c =
    let both = wrong_oid c.args.input.now c.args.algorithm.0 c.args.algorithm.1 c.args.has_parameters c.args.parameters.0 c.args.parameters.1 _ c.in_err-oid.ensures in
    search rules

pub returns-in_err-element : goal.returns-in_err-element
returns-in_err-element c =
    let both = wrong_element c.args.input.now c.args.algorithm.0 c.args.algorithm.1 c.args.has_parameters c.args.parameters.0 c.args.parameters.1 _ c.in_err-element.ensures in
    search rules
