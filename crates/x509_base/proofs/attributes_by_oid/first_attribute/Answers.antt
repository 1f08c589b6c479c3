use Rattle.x509_base.proofs.AttributesByOid.{passed, first_found}
use Rattle.x509_base.proofs.attributes_by_oid.first_attribute.Goals as goal

pub returns-then-is_oid_of : goal.returns-then-is_oid_of
returns-then-is_oid_of c = first_found c.args.oid.now c.args.attributes.now c.loop-index.index c.index-attributes-index.result c.loop-index-test.true c.index-attributes-index.is c.loop-index.invariant c.if-is_oid_of.ensures c.none_has-is_only.result c.none_has-is_only.ensures

pub loop-index-preserved : goal.loop-index-preserved
loop-index-preserved c = passed c.args.oid.now c.args.attributes.now c.loop-index.index c.index-attributes-index.result c.loop-index-test.true c.index-attributes-index.is c.loop-index.invariant c.if-is_oid_of.ensures
