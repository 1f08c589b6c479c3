-- Laws of `Oids.antt`.
use Rattle.std.specs.Prelude.{◌≡◌, ℕ, zero, suc, Bool, true, List, [], ◌∷◌, ◌&&◌}
use Rattle.std.proofs.Common.{refl}
use Rattle.std.proofs.lemmas.Bool.{and_parts}
use Rattle.asn1_core.specs.Der.{arcs, IsOid, is_oid, oid_from_test}
use Rattle.pkcs12_bags.specs.Oids.{known_arcs, oid, row_at}

abbrev all_oids : List (List ℕ) → Bool
all_oids [] = true
all_oids (row ∷ rows) = is_oid (arcs row) && all_oids rows

row_valid : (rows : List (List ℕ)) (n : ℕ) → all_oids rows ≡ true → IsOid (arcs (row_at rows n))
row_valid [] n h = oid_from_test (arcs (2 ∷ 999 ∷ [])) refl
row_valid (row ∷ rows) zero h = oid_from_test (arcs row) (and_parts (is_oid (arcs row)) (all_oids rows) h).0
row_valid (row ∷ rows) (suc n) h = row_valid rows n (and_parts (is_oid (arcs row)) (all_oids rows) h).1

pub oid_valid : (n : ℕ) → IsOid (oid n)
oid_valid n = row_valid known_arcs n refl
