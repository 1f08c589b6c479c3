-- The encodings of values, and why there are none.
use Rattle.std.specs.Prelude.{◌≡◌, ◌⊎◌, ◌≤◌, ◌^◌, ◌++◌, ℕ, List, length, map, Result, MatchResult}
use Rattle.std.specs.List.{AllByRecursion, Contains}
use Rattle.std.specs.List.Sorted.{IsPermutation, IsSorted}
use Rattle.asn1_core.specs.Der.{Format}
use Rattle.asn1_core.specs.declared.raw.Asn1RawDer.{Asn1RawDer}
use Rattle.asn1_core_element.specs.declared.error.Error.{Error}
use Rattle.asn1_core_element.specs.declared.error.Error.TheVariants.{Invalid, TooLong, Memory}
use Rattle.asn1_sets.specs.Order.{compared}

-- a refusal of writing
abbrev pub IsRefusal : Error → Type 0
IsRefusal e = (e ≡ Invalid) ⊎ ((e ≡ TooLong) ⊎ (e ≡ Memory))

-- why values aren't encoded: P doesn't hold, one is too long, or memory was refused
pub record HasNoTexts {V : Type 0} (F : Format V) (P : Type 0) (all : List V) (e : Error) : Type 0 where
  pub kind : IsRefusal e
  pub long : e ≡ TooLong → (v : V) × Contains all v × (2 ^ 64 ≤ length (F.text v))
  pub none : e ≡ Invalid → P → ⊥

-- where P holds their encodings are added
abbrev pub Adds : {V : Type 0} → Format V → Type 0 → List V → List Asn1RawDer → List Asn1RawDer → Result (Unit {0}) Error → Type 0
Adds F P all old new r = MatchResult r (λ _. P × (map (λ x. x.0.items) new ≡ map (λ x. x.0.items) old ++ map F.text all)) (λ e. HasNoTexts F P all e)

-- the encodings of well-formed values, in the order of DER
pub record AreEncodings {V : Type 0} (F : Format V) (values : List V) (texts : List (List ℕ)) : Type 0 where
  pub formed : AllByRecursion (F.IsWellFormed 64) values
  pub order : List V
  pub permutation : IsPermutation values order
  pub texts_are : texts ≡ map F.text order
  pub sorted : IsSorted compared texts
