use Rattle.asn1_core_format.specs.laws.EmptySets.{lawful_set_or_none}
use Rattle.asn1_core_format.proofs.laws.sets_left_out_are_lawful.Goals as goal

pub returns : goal.returns
returns g c = lawful_set_or_none c.args._tag c.requires.tag g.T.DerSerialize.format g.met.T.DerDeserialize.lawful
