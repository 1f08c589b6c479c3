use Rattle.std.proofs.Common.{ap, ◌∙◌}
use Rattle.example_laws.proofs.normalising_twice.Goals as goal

pub returns : goal.returns
returns g c = λ k v h. (let e = c.rewriting_reaches_an_end.ensures k v h in ap g.T.DerSerialize.format.text e.1 ∙ e.0)
