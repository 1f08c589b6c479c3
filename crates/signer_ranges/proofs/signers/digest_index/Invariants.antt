use Rattle.std.proofs.Common.{◌≡◌, map, drop}
use Rattle.pkcs7_attributes.specs.NamedAttributes.{message_digest_oid}
use Rattle.x509_base.specs.AttributesByOid.{with_oid}
use Rattle.x509_base.specs.Names.{attribute_value}
use Rattle.signer_ranges.proofs.signers.digest_index.Given as goal

abbrev pub invariant-loop-index : goal.invariant-loop-index
invariant-loop-index l = with_oid message_digest_oid (map attribute_value (drop l.index l.attributes)) ≡ with_oid message_digest_oid (map attribute_value l.attributes)
