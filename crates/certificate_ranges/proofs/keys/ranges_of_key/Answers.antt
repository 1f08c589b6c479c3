use Rattle.certificate_ranges.proofs.keys.ranges_of_key.Goals as goal

pub returns : goal.returns
returns c = λ v k is o. record { algorithm_at = c.algorithm.ensures v k is o; parameters_at = c.parameters.ensures v k is o; key_at = c.public_key.ensures v k is o }
