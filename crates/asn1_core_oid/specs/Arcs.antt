-- Object identifiers by their arcs (X.660), as standards give them.
use Rattle.std.specs.Prelude.{ℕ, List}
use Rattle.std.specs.List.{flat_map}
use Rattle.asn1_core_oid.specs.Oid.{base128}
use Rattle.asn1_core_oid.specs.OidText.{groups_of_arcs}

-- the contents octets that spell arcs; `oid_from_test _ refl` shows that they are an object identifier's
abbrev pub arcs : List ℕ → List ℕ
arcs numbers = flat_map base128 (groups_of_arcs numbers)
