-- Lists that a call builds, and why it builds none.
use Rattle.std.specs.Prelude.{◌≡◌, ◌⊎◌, ◌<◌, ℕ, List, length, slice_index_or}
use Rattle.asn1_core_element.specs.declared.error.Error.TheVariants.{TooLong, Memory}
use Rattle.attribute_writers.specs.Refusals.{IsFirstWithout}
use Rattle.call_values.specs.declared.not_built.NotBuilt.{NotBuilt}
use Rattle.call_values.specs.declared.not_built.NotBuilt.TheVariants.{Part, Refused}
use Rattle.call_values.specs.declared.built_lists.NoList.{NoList}
use Rattle.call_values.specs.declared.built_lists.NoList.TheVariants.{Item, NotWritten}

-- why no list is built, of an item with that index
abbrev pub at : ℕ → NotBuilt → NoList
at index (Part n) = Item index n
at index (Refused e) = NotWritten e

-- of the item with that index the part with the number n is wrong
pub record IsWrongItem {X : Type 0} (Wrong : X → ℕ → Type 0) (xs : List X) (index n : ℕ) : Type 0 where
  pub item : X
  pub inside : index < length xs
  pub is : item ≡ slice_index_or xs index item
  pub wrong : Wrong item n

-- an item gives nothing, the first with that index, since its part with that number is wrong, or memory was refused
abbrev pub IsNoList : {X : Type 0} → (X → Type 0) → (X → ℕ → Type 0) → List X → NoList → Type 0
IsNoList Gives Wrong xs (Item index n) = IsFirstWithout Gives xs index × IsWrongItem Wrong xs index n
IsNoList Gives Wrong xs (NotWritten e) = e ≡ Memory

-- or the list is too long
abbrev pub IsNoText : {X : Type 0} → (X → Type 0) → (X → ℕ → Type 0) → Type 0 → List X → NoList → Type 0
IsNoText Gives Wrong IsLong xs (Item index n) = IsFirstWithout Gives xs index × IsWrongItem Wrong xs index n
IsNoText Gives Wrong IsLong xs (NotWritten e) = ((e ≡ TooLong) × IsLong) ⊎ (e ≡ Memory)
