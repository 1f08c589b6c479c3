use Rattle.std.proofs.Common.{refl, ◌++◌}
use Rattle.example_laws.proofs.nothing_follows.Goals as goal

pub returns : goal.returns
returns g c = λ k b x u v r s. (c.no_accepted_input_begins_another.ensures k b (b ++ x) x u v r s refl).1
