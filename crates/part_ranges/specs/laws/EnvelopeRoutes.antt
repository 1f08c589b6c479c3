-- Laws of `EnvelopeRoutes.antt`.
use Rattle.std.specs.Prelude.{◌≡◌, [], ◌∷◌}
use Rattle.std.proofs.Common.{refl}
use Rattle.asn1_located.specs.declared.walks.Step.TheVariants.{Inside, Element, After, Past}
use Rattle.part_ranges.specs.EnvelopeRoutes.{encrypted_content, encryption_algorithm, recipients}

-- the steps, which are computed
pub recipients_steps : recipients.steps ≡ Inside ∷ After ∷ Element ∷ Inside ∷ Inside ∷ After ∷ Past 0xA0 ∷ Element ∷ Inside ∷ []
recipients_steps = refl

pub encryption_algorithm_steps : encryption_algorithm.steps ≡ Inside ∷ After ∷ Element ∷ Inside ∷ Inside ∷ After ∷ Past 0xA0 ∷ After ∷ Element ∷ Inside ∷ After ∷ Element ∷ []
encryption_algorithm_steps = refl

pub encrypted_content_steps : encrypted_content.steps ≡ Inside ∷ After ∷ Element ∷ Inside ∷ Inside ∷ After ∷ Past 0xA0 ∷ After ∷ Element ∷ Inside ∷ After ∷ After ∷ Element ∷ Inside ∷ []
encrypted_content_steps = refl
