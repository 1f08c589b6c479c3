use Rattle.pkcs7_attributes.specs.laws.SignedSets.{set_is_retagged}
use Rattle.pkcs7_attributes.proofs.signed_sets.set_has_the_same_contents.Goals as goal

pub returns : goal.returns
returns c = set_is_retagged
