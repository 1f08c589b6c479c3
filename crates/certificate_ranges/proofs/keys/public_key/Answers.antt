use Rattle.certificate_ranges.proofs.KeyPlaces.{key_at}
use Rattle.certificate_ranges.proofs.keys.public_key.Goals as goal

pub returns : goal.returns
returns c = λ v k is o. key_at c.args.input.now v c.bits-contents.result c.after_first.result (c.bits-contents.ensures v k is o) c.after_first.ensures
