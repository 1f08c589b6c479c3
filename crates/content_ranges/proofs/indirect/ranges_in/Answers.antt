use Rattle.asn1_core.specs.Der.{option_value}
use Rattle.content_ranges.proofs.Parts.{ranges_are}
use Rattle.content_ranges.specs.Heads.{image_head_value, indirect_head_value}
use Rattle.content_ranges.proofs.indirect.ranges_in.Goals as goal

pub returns : goal.returns
returns c = λ v has.
    ranges_are c.args.input.now v (indirect_head_value c.args.content.now) has c.content_place-start.result c.content_place-start.ensures _ (option_value image_head_value c.in_ok-image.image)
    c.subject_type.ensures c.value_range.ensures c.in_ok-image.ensures c.image_ranges.ensures c.digest_algorithm.ensures c.digest.ensures
