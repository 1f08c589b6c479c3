use Rattle.std.proofs.Common.{◌≡◌, map, drop}
use Rattle.pkcs12_bags.specs.Attributes.{pkcs12_attribute_value}
use Rattle.pkcs12_bags.specs.FirstAttributes.{first_name}
use Rattle.pkcs12_bags.proofs.safe_bags.names.name_among.Given as goal

abbrev pub invariant-loop-attribute : goal.invariant-loop-attribute
invariant-loop-attribute l = first_name (map pkcs12_attribute_value (drop l.attribute-index l.attribute-items)) ≡ first_name (map pkcs12_attribute_value l.attribute-items)
