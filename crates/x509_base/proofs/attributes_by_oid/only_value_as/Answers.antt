use Rattle.std.proofs.Common.{map}
use Rattle.std.proofs.lemmas.Result.{err_from_is_err_and}
use Rattle.x509_base.specs.AttributesByOid.{with_oid}
use Rattle.x509_base.specs.Names.{attribute_value}
use Rattle.x509_base.proofs.AttributesByOid.{has_refused_no_only}
use Rattle.x509_base.proofs.attributes_by_oid.only_value_as.Goals as goal

pub returns-in_err-value : goal.returns-in_err-value
returns-in_err-value g c = has_refused_no_only g.T.DerSerialize.format (with_oid c.args.oid.now (map attribute_value c.args.attributes.now)) c.in_err-value.ensures.1 g.T.DerSerialize.value (err_from_is_err_and c.from_residual.result c.from_residual.ensures.1) c.in_err-value.ensures.0
