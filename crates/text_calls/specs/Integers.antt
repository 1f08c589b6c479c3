-- What the call from C that writes an integer says.
use Rattle.std.specs.Prelude.{◌≡◌, ◌<◌, ◌⊎◌, ℕ, List, [], length}

-- there are no octets, or too many
abbrev pub HasNoIntegerText : List ℕ → Type 0
HasNoIntegerText octets = (octets ≡ []) ⊎ (1024 < length octets)
