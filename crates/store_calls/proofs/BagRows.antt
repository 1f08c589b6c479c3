-- From the bags that were found to what a call answers.
use Rattle.std.proofs.Common.{◌≡◌, ℕ, List, Vec, Global, map, refl}
use Rattle.std.specs.Prelude.{Result, MatchResult}
use Rattle.bag_ranges.specs.Stores.{AreBagsOf, IsRefusal}
use Rattle.bag_ranges.specs.declared.ranges.BagRanges.{BagRanges}
use Rattle.input_ranges.specs.declared.ranges.Refusal.{Refusal}
use Rattle.input_ranges.specs.declared.ranges.Refusal.TheVariants.{Refused, Part, NoRange}
use Rattle.call_values.proofs.Statuses.{found_written, IsRefusedFor, said, short_error}
use Rattle.store_calls.specs.Bags.{bag_row, FindsBags, without_bags}
use Rattle.call_values.specs.Statuses.{PutsFound}
use Rattle.store_calls.specs.declared.bags.Bag.{Bag}

abbrev pub rows_of : Vec BagRanges Global → List Bag
rows_of v = map bag_row v.items

module _ (b : List ℕ) where
  refused : (e : Refusal) → IsRefusal b e → IsRefusedFor (without_bags b) b e
  refused (Refused e at) why = (short_error (without_bags b) e tt why.0.kind (λ m rows are. why.0.none m are.store are.is_value.reads), why.1)
  refused (Part e at) why = (record { none = λ _ _. why.1; long = λ _. why.1; memory = tt }, why.2)
  refused NoRange why = why

  pub bags_found : (old new : List Bag) (count place status : ℕ) (found : Result (Vec BagRanges Global) Refusal) → MatchResult found (λ rows. AreBagsOf b rows.items) (λ e. IsRefusal b e) → PutsFound rows_of found old new count place status → FindsBags b old new count place status
  bags_found old new count place status found given put =
      found_written (λ rows. (ranges : List BagRanges) × AreBagsOf b ranges × (rows ≡ map bag_row ranges)) (without_bags b) rows_of b old new count place status found
      (said (λ rows. AreBagsOf b rows.items) (λ r. (ranges : List BagRanges) × AreBagsOf b ranges × (rows_of r ≡ map bag_row ranges)) (λ e. IsRefusal b e) (λ e. IsRefusedFor (without_bags b) b e) (λ r are. (r.items, are, refl)) refused found given)
      put
