use Rattle.example_laws.proofs.accepted_as_a_raw_one.Goals as goal

pub returns : goal.returns
returns g c = λ k b v r. (let w = (c.reads_as_the_raw_one.ensures k b v).0 r in (w.0, w.1, w.2.version))
