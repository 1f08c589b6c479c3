use Rattle.certificate_ranges.proofs.KeyPlaces.{parameters_found}
use Rattle.certificate_ranges.proofs.keys.parameters.Goals as goal

pub returns : goal.returns
returns c = λ v k is o. parameters_found c.args.input.now v k c.range_at.result is o c.range_at.ensures
