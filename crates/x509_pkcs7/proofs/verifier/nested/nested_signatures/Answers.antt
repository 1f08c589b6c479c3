use Rattle.std.proofs.Common.{rules, ◌≢◌, []}
use Rattle.pkcs7_signed.specs.declared.signers.SignerInfo.{out-SignerInfo}
use Rattle.pkcs7_signed.specs.declared.signers.UnsignedAttributes.{out-UnsignedAttributes}
use Rattle.x509_pkcs7.proofs.NotEmpty.{some_nested}
use Rattle.x509_pkcs7.specs.Nested.{nested_in_signer}
use Rattle.x509_pkcs7.proofs.verifier.nested.nested_signatures.Goals as goal

pub returns-in_err-push_all : goal.returns-in_err-push_all
returns-in_err-push_all c =
    let some : nested_in_signer c.args.signer.now ≢ [] = some_nested (out-UnsignedAttributes (out-SignerInfo c.args.signer.now).unsigned_attrs.0).0.items c.deref-attribute-items.result.now c.loop-attribute.attribute-index c.attribute-item.result c.nested_of.result.now c.deref-attribute-items.ensures.value c.loop-attribute-test.true c.attribute-item.is c.nested_of.ensures c.in_err-push_all.ensures.1 in
    search rules
