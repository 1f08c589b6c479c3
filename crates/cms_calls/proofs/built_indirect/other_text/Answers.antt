use Rattle.cms_calls.proofs.BuiltIndirect.{no_part}
use Rattle.cms_calls.proofs.built_indirect.other_text.Goals as goal

pub returns-in-Err : goal.returns-in-Err
returns-in-Err c = no_part c.args.input.now c.args.row.now c.in-Err.part c.in-Err.ensures
