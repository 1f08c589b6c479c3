-- Tables of the names of object identifiers.
use Rattle.std.specs.Prelude.{◌≡◌, ◌⊎◌, ℕ, List, [], ◌∷◌}
use Rattle.oid_names.specs.declared.tables.NamedOid.{NamedOid}

-- the contents octets and the name of a row
abbrev pub row_value : NamedOid → List ℕ × List ℕ
row_value row = (row.octets.now, row.name.now)

-- a row has these octets and this name
abbrev pub IsNamed : List (List ℕ × List ℕ) → List ℕ → List ℕ → Type 0
IsNamed [] octets name = ⊥
IsNamed (row ∷ rows) octets name = ((octets ≡ row.0) × (name ≡ row.1)) ⊎ IsNamed rows octets name
