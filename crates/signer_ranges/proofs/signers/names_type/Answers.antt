use Rattle.asn1_core.specs.Der.{octets_of}
use Rattle.pkcs7_attributes.specs.Attributes.{attributes_value}
use Rattle.pkcs7_attributes.specs.NamedAttributes.{content_type_oid}
use Rattle.signer_ranges.proofs.Attributes.{is_named, is_not_named}
use Rattle.x509_base.specs.AttributesByOid.{with_oid}
use Rattle.signer_ranges.proofs.signers.names_type.Goals as goal

pub returns-in-Some : goal.returns-in-Some
returns-in-Some c = is_named (with_oid content_type_oid (attributes_value c.args.attributes.now)) (octets_of c.args.content_type.now.0) (λ t. octets_of t.0) c.in_ok-named.field-0 c.in-Some.named c.in-Some.is c.in_ok-named.ensures c.is_same.result c.is_same.ensures

pub returns-in-None : goal.returns-in-None
returns-in-None c = is_not_named (with_oid content_type_oid (attributes_value c.args.attributes.now)) (octets_of c.args.content_type.now.0) (λ t. octets_of t.0) c.in_ok-named.field-0 c.in-None.is c.in_ok-named.ensures
