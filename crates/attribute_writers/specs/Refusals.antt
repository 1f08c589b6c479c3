-- Why nothing is written.
use Rattle.std.specs.Prelude.{◌≡◌, ◌<◌, ℕ, List, length, slice_index_or, take}
use Rattle.std.specs.List.{AllByRecursion}
use Rattle.asn1_core_element.specs.declared.error.Error.{Error}
use Rattle.asn1_core_element.specs.declared.error.Error.TheVariants.{Invalid, TooLong}
use Rattle.asn1_sets.specs.Encodings.{IsRefusal}

-- P doesn't hold, something is too long, as Long says, or memory was refused
pub record Refuses (P Long : Type 0) (e : Error) : Type 0 where
  pub kind : IsRefusal e
  pub long : e ≡ TooLong → Long
  pub none : e ≡ Invalid → P → ⊥

-- the item with that index, of which P doesn't hold
pub record IsWithout {X : Type 0} (P : X → Type 0) (xs : List X) (index : ℕ) : Type 0 where
  pub item : X
  pub inside : index < length xs
  pub is : item ≡ slice_index_or xs index item
  pub none : P item → ⊥

-- the first such item
pub record IsFirstWithout {X : Type 0} (P : X → Type 0) (xs : List X) (index : ℕ) : Type 0 where
  pub one : IsWithout P xs index
  pub before : AllByRecursion P (take index xs)
