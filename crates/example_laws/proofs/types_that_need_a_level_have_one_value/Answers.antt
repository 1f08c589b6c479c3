use Rattle.example_laws.proofs.types_that_need_a_level_have_one_value.Goals as goal

pub returns : goal.returns
returns g c = λ k b u v r s. c.types_that_need_a_level_are_lawful.ensures.components.one_value k b u v r s
