use Rattle.std.proofs.Common.{length}
use Rattle.located_rows.proofs.RowSteps.{SoFar}
use Rattle.located_rows.proofs.rows.rows_from.Given as goal

abbrev pub invariant-loop-place : goal.invariant-loop-place
invariant-loop-place g l = SoFar g.T.Row.is_row l.start l.octets l.rows.items l.place.start l.place.octets.now

abbrev pub decreases-loop-place : goal.decreases-loop-place
decreases-loop-place g l = length l.place.octets.now
