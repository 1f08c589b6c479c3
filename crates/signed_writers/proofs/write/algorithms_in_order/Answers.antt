use Rattle.signed_writers.proofs.write.algorithms_in_order.Goals as goal

pub returns : goal.returns
returns c = c.encoded_in_order.ensures
