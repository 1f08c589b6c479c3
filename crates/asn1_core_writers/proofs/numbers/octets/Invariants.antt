use Rattle.std.proofs.Common.{List, length, ◌≡◌, ℕ, ◌≤◌, ◌++◌, drop}
use Rattle.asn1_core_element.specs.Numbers.{integer_octets}
use Rattle.asn1_core_writers.proofs.numbers.octets.Given as goal

pub record OctetsFrom (n rest at : ℕ) (bytes : List ℕ) : Type 0 where
  pub split : integer_octets n ≡ integer_octets rest ++ drop at bytes
  pub room : length (integer_octets rest) ≤ at
  pub high : at ≤ 5

abbrev pub invariant-loop-rest : goal.invariant-loop-rest
invariant-loop-rest l = OctetsFrom l.n l.rest l.at l.bytes

abbrev pub decreases-loop-rest : goal.decreases-loop-rest
decreases-loop-rest l = l.rest
