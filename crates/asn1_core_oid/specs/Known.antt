-- Object identifiers that several layers know, by their arcs.
use Rattle.std.specs.Prelude.{ℕ, List, [], ◌∷◌}
use Rattle.asn1_core_oid.specs.Arcs.{arcs}

-- id-data (RFC 5652, 4)
abbrev pub data_oid : List ℕ
data_oid = arcs (1 ∷ 2 ∷ 840 ∷ 113549 ∷ 1 ∷ 7 ∷ 1 ∷ [])
