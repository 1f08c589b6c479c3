use Rattle.std.proofs.Common.{ℕ, length}
use Rattle.asn1_core_writers.specs.Comparing.{IsLongestEnd}
use Rattle.asn1_core_writers.proofs.compare.before_longest_end.Given as goal

abbrev pub invariant-loop-before : goal.invariant-loop-before
invariant-loop-before l = (n : ℕ) → IsLongestEnd l.rest l.before n → IsLongestEnd l.bytes l.input n

abbrev pub decreases-loop-before : goal.decreases-loop-before
decreases-loop-before l = length l.before
