use Rattle.cms_calls.proofs.BuiltIndirect.{no_image, no_part}
use Rattle.indirect_writers.specs.Written.{image_value}
use Rattle.cms_calls.proofs.built_indirect.image_text.Goals as goal

pub returns-in-Err : goal.returns-in-Err
returns-in-Err c = no_part c.args.input.now c.args.row.now c.in-Err.part c.in-Err.ensures

pub returns-in-Err-write_image_data : goal.returns-in-Err-write_image_data
returns-in-Err-write_image_data c =
    no_image c.args.input.now c.args.row.now c.requires (image_value c.in-Ok.image) c.in-Err-write_image_data.error c.in-Ok.ensures c.in-Err-write_image_data.ensures
