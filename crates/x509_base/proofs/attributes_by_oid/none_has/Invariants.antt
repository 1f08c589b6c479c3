use Rattle.std.proofs.Common.{◌≡◌, map, drop}
use Rattle.x509_base.specs.AttributesByOid.{with_oid}
use Rattle.x509_base.specs.Names.{attribute_value}
use Rattle.x509_base.proofs.attributes_by_oid.none_has.Given as goal

abbrev pub invariant-loop-attribute : goal.invariant-loop-attribute
invariant-loop-attribute l = with_oid l.oid (map attribute_value (drop l.attribute-index l.attributes)) ≡ with_oid l.oid (map attribute_value l.attributes)
