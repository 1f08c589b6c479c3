use Rattle.asn1_core_format.specs.laws.Formats.{same_texts}
use Rattle.asn1_core_format.proofs.laws.texts_tell_normal_values.Goals as goal

pub returns : goal.returns
returns g c = same_texts g.T.DerSerialize.format g.met.T.DerDeserialize.lawful.components
