use Rattle.std.specs.Str.{bytes_eq}
use Rattle.x509_base.specs.Extensions.{extension_value}
use Rattle.pkcs7_verifier.proofs.Firsts.{found, passed}
use Rattle.pkcs7_verifier.proofs.KeyIds.{oid_found, oid_passed}
use Rattle.pkcs7_verifier.proofs.key_identifiers.first_extension.Goals as goal

pub returns-then-is_oid_of : goal.returns-then-is_oid_of
returns-then-is_oid_of c = found extension_value c.args.extensions.now c.loop-extension.extension-index c.extension-item.result c.loop-extension-test.true c.extension-item.is (λ e. bytes_eq e.0 c.args.oid.now) c.loop-extension.invariant (oid_found _ _ c.if-is_oid_of.ensures)

pub loop-extension-preserved : goal.loop-extension-preserved
loop-extension-preserved c = passed extension_value c.args.extensions.now c.loop-extension.extension-index c.extension-item.result c.loop-extension-test.true c.extension-item.is (λ e. bytes_eq e.0 c.args.oid.now) c.loop-extension.invariant (oid_passed _ _ c.if-is_oid_of.ensures)
