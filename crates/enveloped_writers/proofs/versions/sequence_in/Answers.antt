use Rattle.enveloped_writers.proofs.Sequences.{no_sequence}
use Rattle.enveloped_writers.proofs.versions.sequence_in.Goals as goal

pub returns-in_default : goal.returns-in_default
returns-in_default c = no_sequence c.in_default.ensures.none
