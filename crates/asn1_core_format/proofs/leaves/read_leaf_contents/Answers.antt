use Rattle.std.proofs.Common.{◌∙◌}
use Rattle.asn1_core_format.proofs.LeafReads.{leaf_contents_given}
use Rattle.asn1_core_format.proofs.leaves.read_leaf_contents.Goals as goal

pub returns : goal.returns
returns g c =
    let t = c.contents-contents.ensures in
    leaf_contents_given g.T.Leaf.value g.T.Leaf.spelling c.args._nest c.args._tag t c.left.ensures (t.refused ∙ c.requires) c.from_contents.result c.from_contents.ensures.spelled
