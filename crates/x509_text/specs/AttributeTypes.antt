-- The short names of attribute types (RFC 4514, 3).
use Rattle.std.specs.Prelude.{ℕ, List, [], ◌∷◌, codes}
use Rattle.asn1_core_oid.specs.Arcs.{arcs}

abbrev pub short_names : List (List ℕ × List ℕ)
short_names =
    (arcs (2 ∷ 5 ∷ 4 ∷ 3 ∷ []), codes "CN") ∷
    (arcs (2 ∷ 5 ∷ 4 ∷ 7 ∷ []), codes "L") ∷
    (arcs (2 ∷ 5 ∷ 4 ∷ 8 ∷ []), codes "ST") ∷
    (arcs (2 ∷ 5 ∷ 4 ∷ 10 ∷ []), codes "O") ∷
    (arcs (2 ∷ 5 ∷ 4 ∷ 11 ∷ []), codes "OU") ∷
    (arcs (2 ∷ 5 ∷ 4 ∷ 6 ∷ []), codes "C") ∷
    (arcs (2 ∷ 5 ∷ 4 ∷ 9 ∷ []), codes "STREET") ∷
    (arcs (0 ∷ 9 ∷ 2342 ∷ 19200300 ∷ 100 ∷ 1 ∷ 25 ∷ []), codes "DC") ∷
    (arcs (0 ∷ 9 ∷ 2342 ∷ 19200300 ∷ 100 ∷ 1 ∷ 1 ∷ []), codes "UID") ∷ []
