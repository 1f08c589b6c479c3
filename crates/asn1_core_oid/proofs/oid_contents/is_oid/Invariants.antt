use Rattle.std.proofs.Common.{◌≡◌, false, drop}
use Rattle.asn1_core_oid.specs.OidTest.{ends_groups}
use Rattle.asn1_core_oid.proofs.oid_contents.is_oid.Given as goal

abbrev pub invariant-loop-octet : goal.invariant-loop-octet
invariant-loop-octet l = ends_groups l.inside (drop l.octet-index l.octets) ≡ ends_groups false l.octets
