-- What the call from C that names an object identifier says, by its status.
use Rattle.std.specs.Prelude.{ℕ, List}
use Rattle.oid_names.specs.Names.{IsObjectName}
use Rattle.call_values.specs.Statuses.{Reasons, Writes}

-- the table has no name
abbrev pub without_name : List ℕ → Reasons
without_name octets = record { IsUnknown = ⊥; HasNone = ⊥; IsLong = ⊥; TakesMemory = ⊥; LacksRange = ⊥; IsAbsent = (name : List ℕ) → ¬ (IsObjectName octets name) }

-- what der_oid_name answers of contents octets and a buffer
abbrev pub WritesObjectName : List ℕ → List ℕ → List ℕ → ℕ → ℕ → Type 0
WritesObjectName octets = Writes (λ name. IsObjectName octets name) (without_name octets)
