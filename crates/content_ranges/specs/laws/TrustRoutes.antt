-- Laws of `TrustRoutes.antt`.
use Rattle.std.specs.Prelude.{◌≡◌, ℕ, [], ◌∷◌}
use Rattle.std.proofs.Common.{refl}
use Rattle.asn1_located.specs.declared.walks.Step.TheVariants.{Inside, Element, After, Past, Nth}
use Rattle.content_ranges.specs.TrustRoutes.{algorithm, attributes, extensions, identifier, list_identifier, next_update, sequence_number, subject_at, subjects, this_update, usages, version}

-- the steps, which are computed
pub version_steps : version.steps ≡ Inside ∷ Element ∷ Inside ∷ []
version_steps = refl

pub usages_steps : usages.steps ≡ Inside ∷ Past 0x02 ∷ Element ∷ []
usages_steps = refl

pub list_identifier_steps : list_identifier.steps ≡ Inside ∷ Past 0x02 ∷ After ∷ Element ∷ Inside ∷ []
list_identifier_steps = refl

pub sequence_number_steps : sequence_number.steps ≡ Inside ∷ Past 0x02 ∷ After ∷ Past 0x04 ∷ Element ∷ Inside ∷ []
sequence_number_steps = refl

pub this_update_steps : this_update.steps ≡ Inside ∷ Past 0x02 ∷ After ∷ Past 0x04 ∷ Past 0x02 ∷ Element ∷ []
this_update_steps = refl

pub next_update_steps : next_update.steps ≡ Inside ∷ Past 0x02 ∷ After ∷ Past 0x04 ∷ Past 0x02 ∷ After ∷ Element ∷ []
next_update_steps = refl

pub algorithm_steps : algorithm.steps ≡ Inside ∷ Past 0x02 ∷ After ∷ Past 0x04 ∷ Past 0x02 ∷ After ∷ Past 0x17 ∷ Past 0x18 ∷ Element ∷ []
algorithm_steps = refl

pub subjects_steps : subjects.steps ≡ Inside ∷ Past 0x02 ∷ After ∷ Past 0x04 ∷ Past 0x02 ∷ After ∷ Past 0x17 ∷ Past 0x18 ∷ After ∷ Element ∷ Inside ∷ []
subjects_steps = refl

pub extensions_steps : extensions.steps ≡ Inside ∷ Past 0x02 ∷ After ∷ Past 0x04 ∷ Past 0x02 ∷ After ∷ Past 0x17 ∷ Past 0x18 ∷ After ∷ Past 0x30 ∷ Element ∷ Inside ∷ []
extensions_steps = refl

pub subject_at_steps : (i : ℕ) → (subject_at i).steps ≡ Inside ∷ Past 0x02 ∷ After ∷ Past 0x04 ∷ Past 0x02 ∷ After ∷ Past 0x17 ∷ Past 0x18 ∷ After ∷ Element ∷ Inside ∷ Nth i ∷ Element ∷ []
subject_at_steps i = refl

pub identifier_steps : identifier.steps ≡ Inside ∷ Element ∷ Inside ∷ []
identifier_steps = refl

pub attributes_steps : attributes.steps ≡ Inside ∷ After ∷ Element ∷ []
attributes_steps = refl
