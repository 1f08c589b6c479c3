-- What sinks take of an encoding.
use Rattle.std.specs.Prelude.{◌≡◌, ℕ, ◌+◌, ◌≤◌, ◌^◌, List, [], length, Option, None, Some, Result, MatchResult}
use Rattle.std.specs.Io.KnownBytes.{Appends}
use Rattle.std.proofs.Common.{refl, sym, append-nil}
use Rattle.asn1_core_streams.specs.Streams.{AppendsBeginning}
use Rattle.asn1_core_writers.specs.declared.writer.WriteError.{WriteError}
use Rattle.asn1_core_writers.specs.declared.writer.WriteError.TheVariants.{TooLong, Failed}

-- a beginning was sent: a write failed, or a part was too long
pub record Stopped (text : List ℕ) (old new : Option (List ℕ)) (f g : ℕ) (e : WriteError) : Type 0 where
  pub part : AppendsBeginning old new text
  pub failed : e ≡ Failed → g ≡ f + 1
  pub too_long : e ≡ TooLong → (g ≡ f) × (2 ^ 64 ≤ length text)

-- the encoding was sent
abbrev pub Sends : List ℕ → Option (List ℕ) → Option (List ℕ) → ℕ → ℕ → Result (Unit {0}) WriteError → Type 0
Sends text old new f g r = MatchResult r (λ _. Appends old new text × (g ≡ f)) (λ e. Stopped text old new f g e)

-- the encoding was sent; or it was too long, and nothing was; or a write failed after a beginning
pub record NotEmitted {S : Type 0} (text : List ℕ) (sink_old sink_new : S) (old new : Option (List ℕ)) (f g : ℕ) (e : WriteError) : Type 0 where
  pub too_long : e ≡ TooLong → (sink_new ≡ sink_old) × (2 ^ 64 ≤ length text)
  pub failed : e ≡ Failed → (g ≡ f + 1) × AppendsBeginning old new text

abbrev pub Emits : {S : Type 0} → List ℕ → S → S → Option (List ℕ) → Option (List ℕ) → ℕ → ℕ → Result (Unit {0}) WriteError → Type 0
Emits text sink_old sink_new old new f g r = MatchResult r (λ _. Appends old new text × (g ≡ f)) (λ e. NotEmitted text sink_old sink_new old new f g e)

pub appends_none : (o : Option (List ℕ)) → Appends o o []
appends_none None = tt
appends_none (Some xs) = sym (append-nil xs)

pub sends_none : (o : Option (List ℕ)) (f : ℕ) → Appends o o [] × (f ≡ f)
sends_none o f = (appends_none o, refl)
