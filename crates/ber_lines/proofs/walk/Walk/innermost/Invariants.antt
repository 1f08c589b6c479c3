use Rattle.std.proofs.Common.{◌≡◌, length}
use Rattle.ber_lines.specs.Lines.{LeavesEnded}
use Rattle.ber_lines.proofs.walk.Walk.innermost.Given as goal

abbrev pub invariant-loop-contents : goal.invariant-loop-contents
invariant-loop-contents l =
    (l.self.input.now ≡ l.initial.self.input.now) × (l.self.opening ≡ l.initial.self.opening) × (l.self.at ≡ l.initial.self.at) × LeavesEnded l.initial.self.opened.items l.initial.self.at l.self.opened.items

abbrev pub decreases-loop-contents : goal.decreases-loop-contents
decreases-loop-contents l = length l.self.opened.items
