use Rattle.std.proofs.Common.{rules, ◌∙◌, sym}
use Rattle.attribute_writers.proofs.NotFurther.{not_further}
use Rattle.attribute_writers.proofs.push_further.Goals as goal

pub returns-in_err-encoded : goal.returns-in_err-encoded
returns-in_err-encoded g c =
    let r = not_further g.F.Further.further c.args.attributes.now c.loop-attribute.attribute-index c.attribute-item.result _ c.loop-attribute-test.true c.attribute-item.is (sym c.is_further.ensures ∙ c.if-is_further.true) c.in_err-encoded.ensures in
    search rules
