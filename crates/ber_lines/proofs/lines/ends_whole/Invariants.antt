use Rattle.std.proofs.Common.{◌+◌, ◌≤◌, ◌↔◌, length}
use Rattle.ber_lines.specs.Lines.{EndsAll}
use Rattle.ber_lines.proofs.lines.ends_whole.Given as goal

abbrev pub invariant-loop-levels : goal.invariant-loop-levels
invariant-loop-levels l = (EndsAll 1 l.fn.bytes ↔ EndsAll l.levels l.rest) × (l.levels + length l.rest ≤ 1 + length l.fn.bytes)

abbrev pub decreases-loop-levels : goal.decreases-loop-levels
decreases-loop-levels l = length l.rest
