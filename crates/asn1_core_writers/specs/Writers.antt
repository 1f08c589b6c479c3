-- What writers take, and how writing in parts composes.
use Rattle.std.specs.Prelude.{◌≡◌, ℕ, ◌+◌, ◌<◌, ◌≤◌, ◌^◌, List, [], ◌++◌, length, Result, Ok, Err, MatchResult}
use Rattle.std.proofs.Common.{refl, sym, append-nil}
use Rattle.asn1_core_writers.specs.declared.writer.WriteError.{WriteError}
use Rattle.asn1_core_writers.specs.declared.writer.WriteError.TheVariants.{TooLong}

-- the outcome of writing: an encoding, the writer before and after
abbrev pub Outcome : Type 0 → Type 1
Outcome W = List ℕ → W → W → Result (Unit {0}) WriteError → Type 0

-- what comes first is taken first
pub record IsForward {W : Type 0} (Takes : Outcome W) : Type 0 where
  pub stops : (a b : List ℕ) (w x : W) (e : WriteError) → Takes a w x (Err e) → Takes (a ++ b) w x (Err e)
  pub goes_on : (a b : List ℕ) (w x y : W) (u : Unit {0}) (r : Result (Unit {0}) WriteError) → Takes a w x (Ok u) → Takes b x y r → Takes (a ++ b) w y r
  pub too_long : (a : List ℕ) (w : W) → 2 ^ 64 ≤ length a → Takes a w w (Err TooLong)

-- what comes last is taken first, and what was taken is counted
pub record IsBackward {W : Type 0} (Takes : Outcome W) (count : W → ℕ) : Type 0 where
  pub stops : (a b : List ℕ) (w x : W) (e : WriteError) → Takes b w x (Err e) → Takes (a ++ b) w x (Err e)
  pub goes_on : (a b : List ℕ) (w x y : W) (u : Unit {0}) (r : Result (Unit {0}) WriteError) → Takes b w x (Ok u) → Takes a x y r → Takes (a ++ b) w y r
  pub counts : (a : List ℕ) (w x : W) (u : Unit {0}) → Takes a w x (Ok u) → count x ≡ count w + length a

-- a count grows by the length of the encoding, or would not fit
abbrev pub MeasureTakes : List ℕ → ℕ → ℕ → Result (Unit {0}) WriteError → Type 0
MeasureTakes text old new r = MatchResult r (λ _. new ≡ old + length text) (λ e. (e ≡ TooLong) × (2 ^ 64 ≤ old + length text))

-- a buffer that is filled from its end: what isn't filled, and what is
pub record Filling : Type 0 where
  pub front : List ℕ
  pub text : List ℕ
  pub capacity : ℕ

-- the encoding was put before what is filled
pub record Filled (t : List ℕ) (w x : Filling) : Type 0 where
  pub gap : List ℕ
  pub front : w.front ≡ x.front ++ gap
  pub size : length gap ≡ length t
  pub text : x.text ≡ t ++ w.text
  pub capacity : x.capacity ≡ w.capacity

abbrev pub FillingTakes : Outcome Filling
FillingTakes t w x r = MatchResult r (λ _. Filled t w x) (λ e. length w.front < length t)

pub filled_nothing : (w : Filling) → Filled [] w w
filled_nothing w = record { gap = []; front = sym (append-nil w.front); size = refl; text = refl; capacity = refl }
