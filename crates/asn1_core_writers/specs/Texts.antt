-- What measuring an encoding answers, and what writing it into a buffer does.
use Rattle.std.specs.Prelude.{◌≡◌, ◌⊎◌, ℕ, ◌+◌, ◌<◌, ◌≤◌, ◌^◌, List, ◌++◌, length, Result, MatchResult}
use Rattle.asn1_core_element.specs.declared.error.Error.{Error}
use Rattle.asn1_core_element.specs.declared.error.Error.TheVariants.{TooLong, Memory}
use Rattle.asn1_core_writers.specs.declared.writer.WriteError.{WriteError}

-- the length of the encoding, or that it doesn't fit
abbrev pub Measures : List ℕ → Result ℕ Error → Type 0
Measures text r = MatchResult r (λ n. n ≡ length text) (λ e. (e ≡ TooLong) × (2 ^ 64 ≤ length text))

-- nothing was written, for want of room
pub record NoRoom (text old : List ℕ) (capacity : ℕ) (new : List ℕ) (e : Error) : Type 0 where
  pub kept : new ≡ old
  pub room : capacity < length old + length text
  pub kind : (e ≡ Memory) ⊎ ((e ≡ TooLong) × (2 ^ 64 ≤ length text))

-- the encoding was appended, or nothing was written
abbrev pub Writes : List ℕ → List ℕ → ℕ → List ℕ → Result (Unit {0}) Error → Type 0
Writes text old capacity new r = MatchResult r (λ _. new ≡ old ++ text) (λ e. NoRoom text old capacity new e)

-- the length of the encoding, or that it doesn't fit, as a writer answers
abbrev pub CountsText : List ℕ → Result ℕ WriteError → Type 0
CountsText text r = MatchResult r (λ n. n ≡ length text) (λ e. (e ≡ WriteError.TooLong) × (2 ^ 64 ≤ length text))

-- why an encoding may not be written: memory was refused, or its length doesn't fit
abbrev pub IsWriteError : List ℕ → Error → Type 0
IsWriteError text e = (e ≡ Memory) ⊎ ((e ≡ TooLong) × (2 ^ 64 ≤ length text))
