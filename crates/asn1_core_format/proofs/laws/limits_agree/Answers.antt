use Rattle.asn1_core_format.specs.laws.Formats.{same_at}
use Rattle.asn1_core_format.proofs.laws.limits_agree.Goals as goal

pub returns : goal.returns
returns g c = same_at g.T.DerSerialize.format g.met.T.DerDeserialize.lawful.components
