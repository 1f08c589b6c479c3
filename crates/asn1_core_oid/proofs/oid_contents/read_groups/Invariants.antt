use Rattle.std.proofs.Common.{◌≡◌, ◌++◌, ◌<◌, ◌^◌, All, ltb, true, drop}
use Rattle.asn1_core_oid.specs.OidLaws.{groups_after}
use Rattle.asn1_core_oid.specs.OidTest.{ends_groups}
use Rattle.asn1_core_oid.proofs.oid_contents.read_groups.Given as goal

abbrev pub invariant-loop-octet : goal.invariant-loop-octet
invariant-loop-octet l =
    record {
      groups : l.groups.items ++ groups_after l.group (drop l.octet-index l.octets) ≡ groups_after 0 l.octets;
      ends : ends_groups (ltb 0 l.group) (drop l.octet-index l.octets) ≡ true;
      fit : All (λ n. n < 2 ^ 64) l.groups.items;
    }
