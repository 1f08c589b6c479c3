-- Why ranges aren't found, in whatever an input is read as.
use Rattle.std.specs.Prelude.{◌≢◌, ◌≤◌, ℕ, List, length}
use Rattle.asn1_core.specs.Der.{Format}
use Rattle.asn1_core_element.specs.declared.error.Error.{Error}
use Rattle.asn1_core_element.specs.declared.error.Error.TheVariants.{Malformed, Missing, Invalid, TooDeep, TooLong, Memory}
use Rattle.asn1_core_format.specs.Whole.{HasNoValue}
use Rattle.input_ranges.specs.declared.ranges.Refusal.{Refusal}
use Rattle.input_ranges.specs.declared.ranges.Refusal.TheVariants.{Refused, Part, NoRange}

-- an error other than `Memory` says this
pub record IsFailure (Says : Type 0) (e : Error) : Type 0 where
  pub says : e ≢ Memory → Says

-- why there are no ranges: the input has no value, or memory was refused, or it has one that lacks a range
abbrev pub IsRefusalOf : {V : Type 0} → Format V → List ℕ → Type 0 → Refusal → Type 0
IsRefusalOf F b Lacks (Refused e place) = HasNoValue F 64 b e × (place ≤ length b)
IsRefusalOf F b Lacks (Part e place) = ⊥
IsRefusalOf F b Lacks NoRange = Lacks

-- what is answered where the parts of a file that was read aren't found
abbrev pub refusal_of : Error → Refusal
refusal_of Malformed = NoRange
refusal_of Missing = NoRange
refusal_of Invalid = NoRange
refusal_of TooDeep = NoRange
refusal_of TooLong = NoRange
refusal_of Memory = Refused Memory 0
