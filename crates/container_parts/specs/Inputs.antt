-- What an input has of a part, and why the part isn't given.
use Rattle.std.specs.Prelude.{◌≡◌, ◌≢◌, ◌≤◌, ◌^◌, ℕ, List, length, Option, Some, Result, Ok, Err, MatchResult}
use Rattle.std.proofs.Common.{Vec, Global}
use Rattle.asn1_core.specs.Der.{Format, IsValueOf}
use Rattle.asn1_core_element.specs.declared.error.Error.{Error}
use Rattle.asn1_core_element.specs.declared.error.Error.TheVariants.{TooLong, Memory}
use Rattle.input_ranges.specs.declared.ranges.Refusal.{Refusal}
use Rattle.input_ranges.specs.declared.ranges.Refusal.TheVariants.{Refused, Part, NoRange}
use Rattle.container_parts.specs.Copies.{copied}

-- what a part means
pub record Meaning : Type 1 where
  -- the input is a container that has these octets as the part, or, at None, one without it
  pub Has : List ℕ → Option (List ℕ) → Type 0
  -- the input is no such container
  pub IsNoContainer : List ℕ → Type 0
  -- it is one, of which a part doesn't read
  pub IsBroken : List ℕ → Type 0

-- the input is the encoding of a value of which that is said
pub record HasPart {V : Type 0} (F : Format V) (Is : V → Option (List ℕ) → Type 0) (b : List ℕ) (octets : Option (List ℕ)) : Type 0 where
  pub value : V
  pub is_value : IsValueOf F 64 b value
  pub is : Is value octets

-- a part of the values of a format, by what is said of a value and octets
abbrev pub part_of : {V : Type 0} → Format V → (V → Option (List ℕ) → Type 0) → Meaning
part_of {V} F Is = record { Has = λ b octets. HasPart F Is b octets; IsNoContainer = λ b. (v : V) → F.Reads 64 b v → ⊥; IsBroken = λ b. ⊥ }

-- the input has the part, and that is too long
pub record HasLongPart (M : Meaning) (b : List ℕ) : Type 0 where
  pub octets : List ℕ
  pub has : M.Has b (Some octets)
  pub long : 2 ^ 64 ≤ length octets

-- what an error says; of want of memory nothing
pub record GivesNoPart (M : Meaning) (b : List ℕ) (e : Error) : Type 0 where
  pub none : e ≢ Memory → e ≢ TooLong → M.IsNoContainer b
  pub long : e ≡ TooLong → HasLongPart M b

abbrev pub RefusesPart : Meaning → List ℕ → Refusal → Type 0
RefusesPart M b (Refused e place) = GivesNoPart M b e × (place ≤ length b)
RefusesPart M b (Part e place) = M.IsBroken b × (place ≤ length b)
RefusesPart M b NoRange = ⊥

abbrev pub GivesPart : Meaning → List ℕ → Result (Option (Vec ℕ Global)) Refusal → Type 0
GivesPart M b r = MatchResult r (λ found. M.Has b (copied found)) (λ refusal. RefusesPart M b refusal)

-- the refusal of octets that weren't copied
abbrev pub with_refusal : Result (Option (Vec ℕ Global)) Error → Result (Option (Vec ℕ Global)) Refusal
with_refusal (Ok found) = Ok found
with_refusal (Err e) = Err (Refused e 0)
