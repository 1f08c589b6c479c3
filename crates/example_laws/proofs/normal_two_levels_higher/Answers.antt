use Rattle.std.proofs.Common.{◌+◌}
use Rattle.example_laws.proofs.normal_two_levels_higher.Goals as goal

pub returns : goal.returns
returns g c = λ k b n. c.normal_texts_stay_normal.ensures (k + 1) b (c.normal_texts_stay_normal.ensures k b n)
