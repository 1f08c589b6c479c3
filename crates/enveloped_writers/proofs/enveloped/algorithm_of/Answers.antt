use Rattle.enveloped_writers.proofs.enveloped.algorithm_of.Goals as goal

pub returns-in-Err : goal.returns-in-Err
returns-in-Err c = (c.in-Err.ensures.kind, λ m h. c.in-Err.ensures.none m h.0 h.1)
