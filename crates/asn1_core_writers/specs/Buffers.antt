-- What sinks take of an encoding after bytes that wait.
use Rattle.std.specs.Prelude.{◌≡◌, ℕ, List, [], ◌++◌, Option, Result, MatchResult}
use Rattle.std.specs.Io.KnownBytes.{Appends}
use Rattle.std.proofs.Common.{refl, append-nil}
use Rattle.asn1_core_writers.specs.Sinks.{Stopped, appends_none}
use Rattle.asn1_core_writers.specs.declared.writer.WriteError.{WriteError}

-- a beginning of what waited and of the encoding after it was sent, and the rest waits
pub record Passed (text before after : List ℕ) (old new : Option (List ℕ)) (f g : ℕ) : Type 0 where
  pub sent : List ℕ
  pub split : before ++ text ≡ sent ++ after
  pub appended : Appends old new sent
  pub failed : g ≡ f

-- the encoding was taken after what waits; or a beginning of both was sent
abbrev pub Buffers : List ℕ → List ℕ → List ℕ → Option (List ℕ) → Option (List ℕ) → ℕ → ℕ → Result (Unit {0}) WriteError → Type 0
Buffers text before after old new f g r = MatchResult r (λ _. Passed text before after old new f g) (λ e. Stopped (before ++ text) old new f g e)

pub buffered_nothing : (before : List ℕ) (o : Option (List ℕ)) (f : ℕ) → Passed [] before before o o f f
buffered_nothing before o f = record { sent = []; split = append-nil before; appended = appends_none o; failed = refl }
