-- What is known of the parts of indirect data before they are put together.
use Rattle.std.specs.Prelude.{ℕ, List, Option, None, Some}
use Rattle.content_ranges.specs.Contents.{LeadsOrNone}
use Rattle.content_ranges.specs.Indirect.{IsImage, link_of, flags_of}
use Rattle.content_ranges.specs.IndirectRoutes.{ImageValue, IndirectValue, flags, link}
use Rattle.content_ranges.specs.declared.ranges.ImageRanges.{ImageRanges}

-- the value as image data, or none where it isn't
abbrev pub IsImageOrNone : IndirectValue → Option ImageValue → Type 0
IsImageOrNone w None = (i : ImageValue) → IsImage w i → ⊥
IsImageOrNone w (Some i) = IsImage w i

-- where the steps to the parts of image data lead from the content, where there is an image
pub record AreImageLed (m : ℕ) (x : List ℕ) (i : ImageValue) (r : ImageRanges) : Type 0 where
  pub flags_lead : LeadsOrNone flags.steps m x (flags_of i) r.flags
  pub link_leads : LeadsOrNone link.steps m x (link_of i) r.link

abbrev pub AreImageFound : ℕ → List ℕ → Option ImageValue → Option ImageRanges → Type 0
AreImageFound m x None None = Unit {0}
AreImageFound m x None (Some r) = ⊥
AreImageFound m x (Some i) None = ⊥
AreImageFound m x (Some i) (Some r) = AreImageLed m x i r
