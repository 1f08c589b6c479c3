-- Laws of `IndirectRoutes.antt`.
use Rattle.std.specs.Prelude.{◌≡◌, [], ◌∷◌}
use Rattle.std.proofs.Common.{refl}
use Rattle.asn1_located.specs.declared.walks.Step.TheVariants.{Inside, Element, After, Past}
use Rattle.content_ranges.specs.IndirectRoutes.{digest, digest_algorithm, flags, link, subject_type, subject_value}

-- the steps, which are computed
pub subject_type_steps : subject_type.steps ≡ Inside ∷ Element ∷ Inside ∷ Element ∷ Inside ∷ []
subject_type_steps = refl

pub subject_value_steps : subject_value.steps ≡ Inside ∷ Element ∷ Inside ∷ After ∷ Element ∷ []
subject_value_steps = refl

pub digest_algorithm_steps : digest_algorithm.steps ≡ Inside ∷ After ∷ Element ∷ Inside ∷ Element ∷ []
digest_algorithm_steps = refl

pub digest_steps : digest.steps ≡ Inside ∷ After ∷ Element ∷ Inside ∷ After ∷ Element ∷ Inside ∷ []
digest_steps = refl

pub flags_steps : flags.steps ≡ Inside ∷ Element ∷ Inside ∷ After ∷ Element ∷ Inside ∷ Element ∷ Inside ∷ []
flags_steps = refl

pub link_steps : link.steps ≡ Inside ∷ Element ∷ Inside ∷ After ∷ Element ∷ Inside ∷ Past 0x03 ∷ Element ∷ Inside ∷ []
link_steps = refl
