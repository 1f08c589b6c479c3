use Rattle.asn1_core_format.proofs.Tags.{components_contents}
use Rattle.asn1_core_format.proofs.within.read_inside.Goals as goal

pub returns : goal.returns
returns g c = components_contents g.R.WriteComponents.value g.R.WriteComponents.format c.args.nest c.args._tag _ _ _ c.read_components.ensures
