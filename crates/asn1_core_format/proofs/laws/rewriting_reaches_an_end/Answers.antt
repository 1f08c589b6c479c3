use Rattle.asn1_core_format.specs.laws.Formats.{normal_value}
use Rattle.asn1_core_format.proofs.laws.rewriting_reaches_an_end.Goals as goal

pub returns : goal.returns
returns g c = normal_value g.T.DerSerialize.format g.met.T.DerDeserialize.lawful.components
