use Rattle.asn1_core_format.specs.laws.NeedsLevel.{lawful_needs_level}
use Rattle.asn1_core_format.proofs.laws.types_that_need_a_level_are_lawful.Goals as goal

pub returns : goal.returns
returns g c = lawful_needs_level g.T.DerSerialize.format g.met.T.DerDeserialize.lawful
