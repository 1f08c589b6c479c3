use Rattle.std.proofs.Common.{map}
use Rattle.asn1_core_format.specs.laws.EmptySets.{empty_alone}
use Rattle.asn1_core_format.proofs.sets.is_left_out.Goals as goal

pub returns : goal.returns
returns g c = empty_alone c.args._tag g.T.DerSerialize.format (map g.T.DerSerialize.value c.args.items.now.items) _ c.requires.some c.is_empty.ensures
