use Rattle.std.proofs.Common.{◌≡◌, map, drop}
use Rattle.pkcs12_bags.specs.Attributes.{pkcs12_attribute_value}
use Rattle.pkcs12_bags.specs.FirstAttributes.{first_key_id}
use Rattle.pkcs12_bags.proofs.safe_bags.names.key_id_among.Given as goal

abbrev pub invariant-loop-attribute : goal.invariant-loop-attribute
invariant-loop-attribute l = first_key_id (map pkcs12_attribute_value (drop l.attribute-index l.attribute-items)) ≡ first_key_id (map pkcs12_attribute_value l.attribute-items)
