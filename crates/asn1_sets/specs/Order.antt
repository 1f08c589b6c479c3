-- The order of a SET OF: the encodings of its components ascend as strings of octets (X.690, 11.6). The standard pads the
-- shorter of two with zeros, which makes no difference between elements, since none is the beginning of another.
use Rattle.std.specs.Prelude.{ℕ, List}
use Rattle.std.specs.Cmp.Lexicographic.{slice_cmp}
use Rattle.std.specs.List.Sorted.{IsPermutation, IsSorted}
use Rattle.std.specs.Ordering.{nat_cmp}
use Rattle.std.specs.declared.cmp.Ordering.{Ordering}

abbrev pub compared : List ℕ → List ℕ → Ordering
compared = slice_cmp nat_cmp

-- ys are the encodings xs in that order
pub record IsInOrder (xs ys : List (List ℕ)) : Type 0 where
  pub permutation : IsPermutation xs ys
  pub sorted : IsSorted compared ys
