-- What is known of an entry before it is one of a list.
use Rattle.std.specs.Prelude.{◌≡◌, ◌+◌, ℕ, List, ◌∷◌, length, Option, None, Some}
use Rattle.std.specs.declared.ops.Range.{Range}
use Rattle.asn1_located.specs.Places.{Walk}
use Rattle.asn1_located.specs.declared.walks.Step.{Step}
use Rattle.asn1_located.specs.declared.walks.Step.TheVariants.{Element}
use Rattle.content_ranges.specs.TrustRoutes.{attributes, identifier}
use Rattle.content_ranges.specs.declared.ranges.EntryRanges.{EntryRanges}
use Rattle.located_rows.specs.Rows.{LeadsTo}

-- the steps lead from the octets x, which begin at m, to that range, or nowhere
abbrev pub LeadsOrNowhere : List Step → ℕ → List ℕ → Option (Range ℕ) → Type 0
LeadsOrNowhere steps m x None = (n : ℕ) (y : List ℕ) → Walk steps m x n y → ⊥
LeadsOrNowhere steps m x (Some r) = (y : List ℕ) × Walk steps m x r.start y × (r.end ≡ r.start + length y)

-- the row of the entry with which the octets x begin, which begin at m
pub record IsEntryRow (m : ℕ) (x : List ℕ) (row : EntryRanges) : Type 0 where
  pub identifier_leads : LeadsTo (Element ∷ identifier.steps) m x row.identifier.start row.identifier.end
  pub attributes_lead : LeadsOrNowhere (Element ∷ attributes.steps) m x row.attributes
