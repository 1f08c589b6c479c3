use Rattle.pkcs7_attributes.specs.NamedAttributes.{message_digest_oid}
use Rattle.signer_ranges.proofs.Digests.{is_index, no_index}
use Rattle.x509_base.proofs.AttributesByOid.{passed}
use Rattle.signer_ranges.proofs.signers.digest_index.Goals as goal

pub returns-then-is_oid_of : goal.returns-then-is_oid_of
returns-then-is_oid_of c = is_index c.args.attributes.now c.loop-index.index c.loop-index.invariant c.index-attributes-index.result c.loop-index-test.true c.index-attributes-index.is c.if-is_oid_of.ensures

pub loop-index-preserved : goal.loop-index-preserved
loop-index-preserved c = passed message_digest_oid c.args.attributes.now c.loop-index.index c.index-attributes-index.result c.loop-index-test.true c.index-attributes-index.is c.loop-index.invariant c.if-is_oid_of.ensures

pub returns : goal.returns
returns c = no_index c.args.attributes.now c.loop-index.index c.loop-index.invariant c.loop-index-test.false 0
