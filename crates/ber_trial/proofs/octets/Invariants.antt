use Rattle.std.proofs.Common.{length}
use Rattle.ber_trial.proofs.octets.Given as goal

abbrev pub decreases-loop-rest : goal.decreases-loop-rest
decreases-loop-rest l = length l.rest
