use Rattle.example_laws.proofs.defined_by_has_one_value.Goals as goal

pub returns : goal.returns
returns g c = λ k b u v r s. c.sequences_defined_by_are_lawful.ensures.components.one_value k b u v r s
