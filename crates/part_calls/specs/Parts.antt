-- What the calls from C say of parts of containers.
use Rattle.std.specs.Prelude.{◌≡◌, ◌≤◌, ◌<◌, ◌⊎◌, ℕ, List, length, get_or, None, Some}
use Rattle.container_parts.specs.Inputs.{HasLongPart, Meaning}
use Rattle.container_parts.specs.Parts.{meaning_of, parts}
use Rattle.container_parts.specs.declared.ContainerPart.{ContainerPart}
use Rattle.call_values.specs.Statuses.{Reasons, WritesAt}

-- p is the part with that number
abbrev pub IsPartAt : ℕ → ContainerPart → Type 0
IsPartAt number p = (number < length parts) × (p ≡ get_or parts number p)

-- a part with that number, of whose meaning Q holds
abbrev pub OfPart : ℕ → ℕ → (Meaning → Type 0) → Type 0
OfPart number index Q = (p : ContainerPart) × IsPartAt number p × Q (meaning_of p index)

-- Why nothing is given of a part of the input b: one that is asked for, of whose meaning Of says what holds, where there
-- is such a part. At DER_TOO_LONG it is too long, or the input is no container that has it.
abbrev pub without_part : ((Meaning → Type 0) → Type 0) → Type 0 → List ℕ → Reasons
without_part Of Unknown b = record {
  IsUnknown = Unknown;
  HasNone = Of (λ M. M.IsNoContainer b ⊎ M.IsBroken b);
  IsLong = Of (λ M. HasLongPart M b ⊎ M.IsBroken b);
  TakesMemory = Unit {0};
  LacksRange = ⊥;
  IsAbsent = Of (λ M. M.Has b None);
}

-- what a call answers of the input b and a buffer that writes a part
abbrev pub CopiesOf : ((Meaning → Type 0) → Type 0) → Type 0 → List ℕ → List ℕ → List ℕ → ℕ → ℕ → ℕ → Type 0
CopiesOf Of Unknown b = WritesAt (λ t. Of (λ M. M.Has b (Some t))) (without_part Of Unknown b) b

-- what der_part_octets answers of the input b and a buffer: at DER_UNKNOWN_KIND there are fewer parts
abbrev pub CopiesPart : ℕ → ℕ → List ℕ → List ℕ → List ℕ → ℕ → ℕ → ℕ → Type 0
CopiesPart number index = CopiesOf (OfPart number index) (length parts ≤ number)
