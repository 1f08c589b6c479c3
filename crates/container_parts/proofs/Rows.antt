-- From the rows of a store to its parts.
use Rattle.std.specs.Prelude.{ℕ, List, Option, Result, slice_get}
use Rattle.std.proofs.Common.{Vec, Global, refl}
use Rattle.asn1_core_element.specs.declared.error.Error.{Error}
use Rattle.bag_ranges.specs.Stores.{AreBagsOf, IsRefusal}
use Rattle.bag_ranges.specs.declared.ranges.BagRanges.{BagRanges}
use Rattle.input_ranges.specs.declared.ranges.Refusal.{Refusal}
use Rattle.input_ranges.specs.declared.ranges.Refusal.TheVariants.{Refused, Part, NoRange}
use Rattle.container_parts.specs.Copies.{Copies}
use Rattle.container_parts.specs.Inputs.{GivesPart, RefusesPart, with_refusal}
use Rattle.container_parts.specs.laws.Inputs.{gives_copy}
use Rattle.container_parts.specs.StoreParts.{all_in, in_store}
use Rattle.container_parts.specs.declared.stores.StorePart.{StorePart}

module _ (part : StorePart) (i : ℕ) (b : List ℕ) where
  pub rows_refused : (refusal : Refusal) → IsRefusal b refusal → RefusesPart (in_store part i) b refusal
  rows_refused (Refused e place) why = (
    record {
      none = λ m l store reads. why.0.none m store reads;
      long = λ l. absurd (why.0.kind l);
    },
    why.1,
  )
  rows_refused (Part e place) why = ((why.0, why.1), why.2)
  rows_refused NoRange why = why

  pub rows_copied : (rows : List BagRanges) → AreBagsOf b rows → (r : Result (Option (Vec ℕ Global)) Error) → Copies (slice_get (all_in part b rows) i) r → GivesPart (in_store part i) b (with_refusal r)
  rows_copied rows are r c = gives_copy (in_store part i) b _ (record { rows = rows; are = are; is = refl }) r c
