-- The object identifiers that are known, by their arcs.
use Rattle.std.specs.Prelude.{ℕ, List, [], ◌∷◌}
use Rattle.asn1_core.specs.Der.{arcs}

-- id-signedData (RFC 5652, 5.1)
abbrev pub signed_data_oid : List ℕ
signed_data_oid = arcs (1 ∷ 2 ∷ 840 ∷ 113549 ∷ 1 ∷ 7 ∷ 2 ∷ [])

-- id-countersignature (RFC 5652, 11.4)
abbrev pub countersignature_oid : List ℕ
countersignature_oid = arcs (1 ∷ 2 ∷ 840 ∷ 113549 ∷ 1 ∷ 9 ∷ 6 ∷ [])

-- szOID_RFC3161_counterSign (wincrypt.h)
abbrev pub ms_counter_sign_oid : List ℕ
ms_counter_sign_oid = arcs (1 ∷ 3 ∷ 6 ∷ 1 ∷ 4 ∷ 1 ∷ 311 ∷ 3 ∷ 3 ∷ 1 ∷ [])
