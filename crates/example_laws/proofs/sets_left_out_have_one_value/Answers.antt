use Rattle.example_laws.proofs.sets_left_out_have_one_value.Goals as goal

pub returns : goal.returns
returns g c = λ k b u v r s. c.sets_left_out_are_lawful.ensures.one_value k b u v r s
