use Rattle.cms_calls.proofs.BuiltIndirect.{no_part, not_built}
use Rattle.cms_calls.specs.declared.built_indirect.WrongIndirect.TheVariants.{Digest}
use Rattle.cms_calls.proofs.built_indirect.text_of.Goals as goal

pub returns-in-Err : goal.returns-in-Err
returns-in-Err c = no_part c.args.input.now c.args.row.now Digest c.in-Err.ensures.1

pub returns-in-Err-write_indirect_data : goal.returns-in-Err-write_indirect_data
returns-in-Err-write_indirect_data c =
    not_built c.args.input.now c.args.row.now _ c.in-Err-write_indirect_data.error
    (record { subject = c.requires.0; algorithm = c.requires.1; digest = c.in-Ok.ensures }) c.in-Err-write_indirect_data.ensures
