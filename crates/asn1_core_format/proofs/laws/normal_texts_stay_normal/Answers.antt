use Rattle.asn1_core_format.specs.laws.Formats.{normal_deeper}
use Rattle.asn1_core_format.proofs.laws.normal_texts_stay_normal.Goals as goal

pub returns : goal.returns
returns g c = normal_deeper g.T.DerSerialize.format g.met.T.DerDeserialize.lawful.components
