-- Laws of `ParcelRoutes.antt`.
use Rattle.std.specs.Prelude.{◌≡◌, ℕ, [], ◌∷◌}
use Rattle.std.proofs.Common.{refl}
use Rattle.asn1_located.specs.declared.walks.Step.TheVariants.{Inside, Element, After, Past, Nth}
use Rattle.example_places.specs.ParcelRoutes.{data_of_stamp, note}

-- the steps, which are computed
pub note_steps : note.steps ≡ Inside ∷ After ∷ Past 0x01 ∷ Past 0x02 ∷ Element ∷ Inside ∷ Inside ∷ []
note_steps = refl

pub data_steps : (i : ℕ) → (data_of_stamp i).steps ≡ Inside ∷ After ∷ Past 0x01 ∷ Past 0x02 ∷ Past 0xBE ∷ Element ∷ Inside ∷ Nth i ∷ Element ∷ Inside ∷ After ∷ Element ∷ Inside ∷ []
data_steps i = refl
