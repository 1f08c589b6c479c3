use Rattle.bag_ranges.proofs.Attributes.{is_index, no_index}
use Rattle.x509_base.proofs.AttributesByOid.{passed}
use Rattle.bag_ranges.proofs.bags.index_of.Goals as goal

pub returns-then-is_oid_of : goal.returns-then-is_oid_of
returns-then-is_oid_of c = is_index c.args.oid.now c.args.attributes.now c.loop-index.index c.loop-index.invariant c.index-attributes-index.result c.loop-index-test.true c.index-attributes-index.is c.if-is_oid_of.ensures

pub loop-index-preserved : goal.loop-index-preserved
loop-index-preserved c = passed c.args.oid.now c.args.attributes.now c.loop-index.index c.index-attributes-index.result c.loop-index-test.true c.index-attributes-index.is c.loop-index.invariant c.if-is_oid_of.ensures

pub returns : goal.returns
returns c = no_index c.args.oid.now c.args.attributes.now c.loop-index.index c.loop-index.invariant c.loop-index-test.false 0
