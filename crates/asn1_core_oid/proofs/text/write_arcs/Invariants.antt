use Rattle.std.proofs.Common.{◌≡◌, ◌++◌, take, string_bytes}
use Rattle.std.specs.List.{flat_map}
use Rattle.asn1_core_oid.specs.OidText.{dotted}
use Rattle.asn1_core_oid.proofs.text.write_arcs.Given as goal

abbrev pub invariant-loop-arc : goal.invariant-loop-arc
invariant-loop-arc l = string_bytes l.text ≡ string_bytes l.fn.text ++ flat_map dotted (take l.arc-index l.arcs)
