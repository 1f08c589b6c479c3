use Rattle.std.proofs.Common.{List, length, ◌≡◌, ℕ, ◌+◌, ◌≤◌, ◌++◌, drop}
use Rattle.std.specs.Int.Digits.{digits_of}
use Rattle.asn1_core_writers.proofs.elements.digits.Given as goal

pub record DigitsFrom (n rest at : ℕ) (bytes : List ℕ) : Type 0 where
  pub split : digits_of 256 n ≡ digits_of 256 rest ++ drop at bytes
  pub room : length (digits_of 256 rest) + 2 ≤ at
  pub high : at ≤ 10

abbrev pub invariant-loop-rest : goal.invariant-loop-rest
invariant-loop-rest l = DigitsFrom l.n l.rest l.at l.bytes

abbrev pub decreases-loop-rest : goal.decreases-loop-rest
decreases-loop-rest l = l.rest
