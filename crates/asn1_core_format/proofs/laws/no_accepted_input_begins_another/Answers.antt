use Rattle.asn1_core_format.specs.laws.Formats.{no_longer}
use Rattle.asn1_core_format.proofs.laws.no_accepted_input_begins_another.Goals as goal

pub returns : goal.returns
returns g c = no_longer g.T.DerSerialize.format g.met.T.DerDeserialize.lawful
