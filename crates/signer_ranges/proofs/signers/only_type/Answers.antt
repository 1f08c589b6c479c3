use Rattle.asn1_core.specs.Der.{object_identifier}
use Rattle.pkcs7_attributes.specs.Attributes.{attributes_value}
use Rattle.pkcs7_attributes.specs.NamedAttributes.{content_type_oid}
use Rattle.signer_ranges.proofs.Attributes.{none_is_only}
use Rattle.x509_base.specs.AttributesByOid.{with_oid}
use Rattle.signer_ranges.proofs.signers.only_type.Goals as goal

pub returns-in_ok-without_answer-in-Err : goal.returns-in_ok-without_answer-in-Err
returns-in_ok-without_answer-in-Err c = none_is_only object_identifier (with_oid content_type_oid (attributes_value c.args.attributes.now)) c.in-Err.error c.in-Err.ensures c.in_ok-without_answer-in-Err.ensures
