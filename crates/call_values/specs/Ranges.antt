-- Ranges of an input, as the calls from C write them.
use Rattle.std.specs.Prelude.{◌≡◌, ◌-◌, ℕ, List, map, Option, None, Some}
use Rattle.std.specs.declared.ops.Range.{Range}
use Rattle.call_values.specs.declared.ranges.Octets.{Octets}

-- a range by its start and its length
abbrev pub octets_of : Range ℕ → Octets
octets_of r = record { start = r.start; len = r.end - r.start }

abbrev pub nothing : Octets
nothing = record { start = 0; len = 0 }

abbrev pub octets_or_none : Option (Range ℕ) → Octets
octets_or_none None = nothing
octets_or_none (Some r) = octets_of r

-- whether it is there, as a number
abbrev pub is_there : {X : Type 0} → Option X → ℕ
is_there None = 0
is_there (Some x) = 1

-- rows are those of ranges of which Are holds
abbrev pub AreRowsOf : (List (Range ℕ) → Type 0) → List Octets → Type 0
AreRowsOf Are rows = (ranges : List (Range ℕ)) × Are ranges × (rows ≡ map octets_of ranges)
