use Rattle.asn1_core.specs.Der.{octets_of}
use Rattle.asn1_core_format.proofs.Tags.{components_contents}
use Rattle.asn1_choices.specs.DefinedBy.{any_defined_by}
use Rattle.asn1_choices.proofs.defined_by.read_inside_defined_by.Goals as goal

pub returns : goal.returns
returns g c = components_contents (λ x. (octets_of x.0.0, g.P.AnyDefinedBy.value x.1)) (any_defined_by g.P.AnyDefinedBy.defined_by) c.args.nest 0x30 _ _ _ c.read_both.ensures
