use Rattle.std.specs.Str.{bytes_eq}
use Rattle.certificate_ranges.proofs.Indices.{first_at, goes_on, none_at_end}
use Rattle.pkcs7_verifier.proofs.KeyIds.{oid_found, oid_passed}
use Rattle.x509_base.specs.Extensions.{extension_value}
use Rattle.certificate_ranges.proofs.extensions.first_extension.Goals as goal

pub returns-then-is_oid_of : goal.returns-then-is_oid_of
returns-then-is_oid_of c = first_at extension_value c.args.extensions.now c.loop-index.index c.index-extensions-index.result c.loop-index-test.true c.index-extensions-index.is (λ e. bytes_eq e.0 c.args.oid.now) c.loop-index.invariant (oid_found _ _ c.if-is_oid_of.ensures)

pub loop-index-preserved : goal.loop-index-preserved
loop-index-preserved c = goes_on extension_value c.args.extensions.now c.loop-index.index c.index-extensions-index.result c.loop-index-test.true c.index-extensions-index.is (λ e. bytes_eq e.0 c.args.oid.now) c.loop-index.invariant (oid_passed _ _ c.if-is_oid_of.ensures)

pub returns : goal.returns
returns c = none_at_end extension_value c.args.extensions.now c.loop-index.index (λ e. bytes_eq e.0 c.args.oid.now) c.loop-index-test.false c.loop-index.invariant
