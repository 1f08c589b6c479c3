use Rattle.std.proofs.Common.{◌≡◌, map, drop}
use Rattle.x509_base.specs.AttributesByOid.{with_oid}
use Rattle.x509_base.specs.Names.{attribute_value}
use Rattle.bag_ranges.proofs.bags.index_of.Given as goal

abbrev pub invariant-loop-index : goal.invariant-loop-index
invariant-loop-index l = with_oid l.oid (map attribute_value (drop l.index l.attributes)) ≡ with_oid l.oid (map attribute_value l.attributes)
