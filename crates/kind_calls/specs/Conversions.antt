-- What the calls from C say of inputs in BER, by their status.
use Rattle.std.specs.Prelude.{◌≡◌, ℕ, List}
use Rattle.ber_der.specs.Ber.{IsBer}
use Rattle.ber_der.specs.declared.contexts.Role.TheVariants.{Whole}
use Rattle.call_values.specs.Statuses.{Reasons, WritesAt}

-- t is the DER of b, the only one
pub record IsDerOf (b t : List ℕ) : Type 0 where
  pub is : IsBer 64 Whole b t
  pub only : (u : List ℕ) → IsBer 64 Whole b u → u ≡ t

-- the input has no DER
abbrev pub LacksDer : List ℕ → Type 0
LacksDer b = (t : List ℕ) → IsBer 64 Whole b t → ⊥

-- it has none where it is refused, and so it would be at DER_TOO_LONG
abbrev pub without_der : List ℕ → Reasons
without_der b = record { IsUnknown = ⊥; HasNone = LacksDer b; IsLong = LacksDer b; TakesMemory = Unit {0}; LacksRange = ⊥; IsAbsent = ⊥ }

-- what der_from_ber answers of the input b and a buffer
abbrev pub ConvertsBer : List ℕ → List ℕ → List ℕ → ℕ → ℕ → ℕ → Type 0
ConvertsBer b = WritesAt (λ t. IsDerOf b t) (without_der b) b
