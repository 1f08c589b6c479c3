use Rattle.certificate_ranges.proofs.Indices.{first_at, goes_on, none_at_end}
use Rattle.certificate_ranges.specs.Certificates.{octets_in}
use Rattle.pkcs7_verifier.specs.KeyIdentifiers.{has_tag}
use Rattle.certificate_ranges.proofs.extensions.first_tagged.Goals as goal

pub returns-then-is_tagged : goal.returns-then-is_tagged
returns-then-is_tagged c =
    (octets_in c.index-elements-index.result, first_at octets_in c.args.elements.now c.loop-index.index c.index-elements-index.result c.loop-index-test.true c.index-elements-index.is (has_tag c.args.tag) c.loop-index.invariant c.if-is_tagged.ensures)

pub loop-index-preserved : goal.loop-index-preserved
loop-index-preserved c = goes_on octets_in c.args.elements.now c.loop-index.index c.index-elements-index.result c.loop-index-test.true c.index-elements-index.is (has_tag c.args.tag) c.loop-index.invariant c.if-is_tagged.ensures

pub returns : goal.returns
returns c = none_at_end octets_in c.args.elements.now c.loop-index.index (has_tag c.args.tag) c.loop-index-test.false c.loop-index.invariant
