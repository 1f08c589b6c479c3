use Rattle.std.proofs.Common.{sym, ◌∙◌}
use Rattle.example_laws.proofs.one_value_an_encoding.Goals as goal

pub returns : goal.returns
returns g c = λ k u v h i p q e. sym p ∙ (c.texts_tell_normal_values.ensures k u v h i).0 e ∙ q
