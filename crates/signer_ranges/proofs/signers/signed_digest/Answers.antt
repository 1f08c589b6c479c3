use Rattle.asn1_core.specs.Der.{octets_of}
use Rattle.pkcs7_attributes.specs.Attributes.{attributes_value}
use Rattle.signer_ranges.proofs.Attributes.{signs_no_digest}
use Rattle.signer_ranges.proofs.signers.signed_digest.Goals as goal

pub returns-in-None : goal.returns-in-None
returns-in-None c = signs_no_digest (attributes_value c.args.attributes.now) (octets_of c.args.content_type.now.0) (λ o. o.0.items) c.in_ok-digest.field-0 c.in-None.is c.in_ok-digest.ensures
