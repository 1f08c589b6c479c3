-- From the part of a container to what a call answers.
use Rattle.std.proofs.Common.{◌≤◌, ℕ, List, Vec, Global, length, inl, inr}
use Rattle.std.specs.Prelude.{Option, None, Some, Result}
use Rattle.container_parts.specs.Copies.{copied}
use Rattle.container_parts.specs.Inputs.{GivesPart, RefusesPart}
use Rattle.container_parts.specs.Parts.{meaning_of, parts}
use Rattle.container_parts.specs.declared.ContainerPart.{ContainerPart}
use Rattle.input_ranges.specs.declared.ranges.Refusal.{Refusal}
use Rattle.input_ranges.specs.declared.ranges.Refusal.TheVariants.{Refused, Part, NoRange}
use Rattle.call_values.proofs.Statuses.{HasOrLacks, IsRefusedFor, said, some_written}
use Rattle.part_calls.specs.Parts.{CopiesPart, IsPartAt, OfPart, without_part}
use Rattle.call_values.specs.Statuses.{PutsSome, Reasons}

module _ (number index : ℕ) (b : List ℕ) where
  abbrev Have : List ℕ → Type 0
  Have t = OfPart number index (λ M. M.Has b (Some t))

  abbrev Why : Reasons
  Why = without_part (OfPart number index) (length parts ≤ number) b

  module _ (p : ContainerPart) (is : IsPartAt number p) where
    given : (found : Option (Vec ℕ Global)) → (meaning_of p index).Has b (copied found) → HasOrLacks Have Why (λ v. v.items) found
    given None absent = (p, is, absent)
    given (Some v) has = (p, is, has)

    refused : (e : Refusal) → RefusesPart (meaning_of p index) b e → IsRefusedFor Why b e
    refused (Refused e place) why = (record { none = λ m l. (p, is, inl (why.0.none m l)); long = λ l. (p, is, inl (why.0.long l)); memory = tt }, why.1)
    refused (Part e place) why = (record { none = λ m l. (p, is, inr why.0); long = λ l. (p, is, inr why.0); memory = tt }, why.1)
    refused NoRange why = why

    pub part_copied : (old new : List ℕ) (len place status : ℕ) (found : Result (Option (Vec ℕ Global)) Refusal) → GivesPart (meaning_of p index) b found → PutsSome (λ v. v.items) found old new len place status → CopiesPart number index b old new len place status
    part_copied old new len place status found gives put =
        some_written Have Why (λ v. v.items) b old new len place status found
        (said (λ r. (meaning_of p index).Has b (copied r)) (λ r. HasOrLacks Have Why (λ v. v.items) r) (λ e. RefusesPart (meaning_of p index) b e) (λ e. IsRefusedFor Why b e) given refused found gives)
        put
