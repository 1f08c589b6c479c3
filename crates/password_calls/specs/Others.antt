-- Algorithms that are given with their parameters as an element.
use Rattle.std.specs.Prelude.{ℕ, List}
use Rattle.call_values.specs.declared.ranges.Octets.{Octets}
use Rattle.password_ranges.specs.Parameters.{AlgorithmValue}
use Rattle.call_values.specs.Given.{HasNone, IfGiven, IsElementOf, IsOidOf}

-- an algorithm by its object identifier, with its parameters as an element, or without any
pub record IsOtherOf (b : List ℕ) (oid : Octets) (flag : ℕ) (parameters : Octets) (w : AlgorithmValue) : Type 0 where
  pub algorithm : IsOidOf b oid w.0
  pub parameters_are : IfGiven flag (IsElementOf b parameters) w.1.0

-- which of its parts can't be written: the algorithm, which has the number k, or its parameters, which have m
pub data IsWrongOther (b : List ℕ) (oid : Octets) (k flag : ℕ) (parameters : Octets) (m : ℕ) : ℕ → Type 0 where
  other_algorithm : HasNone (IsOidOf b oid) → IsWrongOther b oid k flag parameters m k
  other_parameters : HasNone (IfGiven flag (IsElementOf b parameters)) → IsWrongOther b oid k flag parameters m m
