use Rattle.std.proofs.Common.{◌∙◌}
use Rattle.cms_calls.proofs.BuiltAttributes.{given_by, no_part, not_built}
use Rattle.cms_calls.proofs.built_attributes.attributes_text.Goals as goal

pub returns : goal.returns
returns c = no_part c.args.input.now c.args.row.now c.in-Err.part c.in-Err.ensures

pub returns-in-Ok : goal.returns-in-Ok
returns-in-Ok c =
    let x = c.in-Ok.attributes in
    let are = given_by c.args.input.now c.args.row.now x c.in_ok-further.further.items c.in-Ok.ensures.0 c.in_ok-further.ensures (c.in-Ok.ensures.1 ∙ c.as_slice.ensures.value) in
    not_built c.args.input.now c.args.row.now x are c.in-Err-write_attributes.error c.in-Err-write_attributes.ensures
