use Rattle.x509_containers.proofs.KindLists.{one_more, of_none}
use Rattle.x509_containers.proofs.kinds.Kind.from_octets.Goals as goal

pub loop-kind-preserved : goal.loop-kind-preserved
loop-kind-preserved c =
    one_more _ _ _ _ _ c.loop-kind-test.true c.is_word.ensures c.if-is_word.false c.loop-kind.invariant

pub returns : goal.returns
returns c = λ kind. of_none _ _ _ c.loop-kind-test.false c.loop-kind.invariant kind (c.all-kind-items.ensures.every kind)
