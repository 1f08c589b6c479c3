use Rattle.std.specs.Prelude.{[], ◌∷◌}
use Rattle.std.proofs.Common.{rules}
use Rattle.asn1_sets.proofs.NotEncoded.{unwritten}
use Rattle.attribute_writers.specs.Attributes.{ATTRIBUTE}
use Rattle.attribute_writers.proofs.push_value.Goals as goal

pub returns-in_err-with_value : goal.returns-in_err-with_value
returns-in_err-with_value g c =
    let text = g.T.DerSerialize.format.text (g.T.DerSerialize.value c.args.value) in
    let r = unwritten ATTRIBUTE.format (Unit {0}) (c.args.oid.now, (text ∷ [], tt)) _ c.in_err-with_value.ensures in
    search rules
