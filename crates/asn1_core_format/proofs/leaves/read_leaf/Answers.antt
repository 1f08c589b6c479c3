use Rattle.asn1_core_format.proofs.LeafReads.{leaf_given}
use Rattle.asn1_core_format.proofs.leaves.read_leaf.Goals as goal

pub returns-clause-gives : goal.returns-clause-gives
returns-clause-gives g c = leaf_given g.T.Leaf.value g.T.Leaf.spelling c.args._nest c.args.tag c.in_ok-contents.ensures c.from_contents.result c.from_contents.ensures.spelled
