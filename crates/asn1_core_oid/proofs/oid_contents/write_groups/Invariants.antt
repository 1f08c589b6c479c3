use Rattle.std.proofs.Common.{◌≡◌, ◌++◌, take}
use Rattle.std.specs.List.{flat_map}
use Rattle.asn1_core_oid.specs.Oid.{base128}
use Rattle.asn1_core_oid.proofs.oid_contents.write_groups.Given as goal

abbrev pub invariant-loop-group : goal.invariant-loop-group
invariant-loop-group l = l.out.items ≡ l.fn.out.items ++ flat_map base128 (take l.group-index l.groups)
