use Rattle.std.proofs.Common.{rules, ◌≢◌, [], map}
use Rattle.x509_base.specs.Names.{attribute_value}
use Rattle.x509_pkcs7.proofs.SomeValues.{some_value}
use Rattle.x509_pkcs7.specs.RawAttributes.{values_with}
use Rattle.x509_pkcs7.proofs.verifier.raw_attributes.push_values.Goals as goal

pub returns-in_err-push_all : goal.returns-in_err-push_all
returns-in_err-push_all c =
    let some : values_with c.args.oid.now (map attribute_value c.args.attributes.now) ≢ [] = some_value c.args.oid.now c.args.attributes.now c.loop-attribute.attribute-index c.attribute-item.result c.values_of.result.now c.loop-attribute-test.true c.attribute-item.is c.values_of.ensures c.in_err-push_all.ensures.1 in
    search rules
