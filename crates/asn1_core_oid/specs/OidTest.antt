-- A test of contents octets, which computes at octets that are written out.
use Rattle.std.specs.Prelude.{◌==◌, ℕ, Bool, true, false, not, ◌&&◌, List, [], ◌∷◌, nat_lt, nat_le, if◌then◌else◌}

-- the octets are whole groups, the first of which began earlier where `inside` is true; no group begins with 0x80
abbrev pub ends_groups : Bool → List ℕ → Bool
ends_groups inside [] = not inside
ends_groups inside (o ∷ os) = if o == 0x80 && not inside then false else ends_groups (nat_le 0x80 o) os

abbrev pub are_bytes : List ℕ → Bool
are_bytes [] = true
are_bytes (o ∷ os) = nat_lt o 256 && are_bytes os

-- one group or more, and nothing else
abbrev pub is_oid : List ℕ → Bool
is_oid [] = false
is_oid (o ∷ os) = are_bytes (o ∷ os) && ends_groups false (o ∷ os)
