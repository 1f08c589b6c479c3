use Rattle.ber_lines.specs.Lines.{left_over}
use Rattle.dertree.proofs.tree.write_tree.Given as goal

abbrev pub decreases-loop-walk : goal.decreases-loop-walk
decreases-loop-walk g l = left_over l.walk.input.now l.walk.opened.items l.walk.at
