-- Octets in a range of an input.
use Rattle.std.specs.Prelude.{◌≡◌, ◌≤◌, ℕ, List, length, Option, None, Some, slice_range}
use Rattle.std.specs.declared.ops.Range.{Range}

-- these octets are in the input from one place to the other
pub record IsAt (b octets : List ℕ) (start end : ℕ) : Type 0 where
  pub is : slice_range b start end ≡ octets
  pub inside : end ≤ length b
  pub ordered : start ≤ end

-- or there are none
abbrev pub IsAtOrNone : List ℕ → Option (List ℕ) → Option (Range ℕ) → Type 0
IsAtOrNone b None None = Unit {0}
IsAtOrNone b None (Some r) = ⊥
IsAtOrNone b (Some octets) None = ⊥
IsAtOrNone b (Some octets) (Some r) = IsAt b octets r.start r.end
