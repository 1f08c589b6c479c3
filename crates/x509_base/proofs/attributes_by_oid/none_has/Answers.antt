use Rattle.x509_base.proofs.AttributesByOid.{passed, not_none}
use Rattle.x509_base.proofs.attributes_by_oid.none_has.Goals as goal

pub returns-then-is_oid_of : goal.returns-then-is_oid_of
returns-then-is_oid_of c = not_none c.args.oid.now c.args.attributes.now c.loop-attribute.attribute-index c.attribute-item.result c.loop-attribute-test.true c.attribute-item.is c.loop-attribute.invariant c.if-is_oid_of.ensures

pub loop-attribute-preserved : goal.loop-attribute-preserved
loop-attribute-preserved c = passed c.args.oid.now c.args.attributes.now c.loop-attribute.attribute-index c.attribute-item.result c.loop-attribute-test.true c.attribute-item.is c.loop-attribute.invariant c.if-is_oid_of.ensures
