-- What is told of an input in memory, and what the steps of a run do.
use Rattle.std.specs.Prelude.{◌≡◌, ◌⊎◌, ◌↔◌, ℕ, ◌+◌, Bool, List, ◌++◌, length, Option, Result, MatchResult, IsTrue}
use Rattle.std.specs.Io.KnownBytes.{Appends}
use Rattle.asn1_core_element.specs.declared.error.Error.{Error}
use Rattle.asn1_core_streams.specs.Streams.{AppendsBeginning}
use Rattle.der_engine.specs.Engine.{Rewriting, IsRefusal, Says, Leaves, read_failures, write_failures}
use Rattle.der_engine.specs.declared.outcome.Mode.{Mode}
use Rattle.der_engine.specs.declared.outcome.Outcome.{Outcome}
use Rattle.der_engine.specs.declared.outcome.Outcome.TheVariants.{WriteFailed}

-- the encoding of the value of b, the only one, has so many bytes, and is b exactly where b is normal
pub record IsChecked (K : Rewriting) (b : List ℕ) (is_normal : Bool) (size : ℕ) : Type 0 where
  pub text : List ℕ
  pub to : K.To b text
  pub only : (t : List ℕ) → K.To b t → t ≡ text
  pub long : size ≡ length text
  pub same : IsTrue is_normal ↔ (text ≡ b)
  pub back : (text ≡ b) ↔ K.IsNormal b

abbrev pub Checks : Rewriting → List ℕ → Result (Bool × ℕ) Error → Type 0
Checks K b r = MatchResult r (λ p. IsChecked K b p.0 p.1) (λ e. IsRefusal K b e)

-- the encoding of the value of b, the only one, follows what there was
pub record IsRewritten (K : Rewriting) (b old new : List ℕ) : Type 0 where
  pub text : List ℕ
  pub to : K.To b text
  pub only : (t : List ℕ) → K.To b t → t ≡ text
  pub appended : new ≡ old ++ text

abbrev pub RewritesAfter : Rewriting → List ℕ → List ℕ → List ℕ → Result (Unit {0}) Error → Type 0
RewritesAfter K b old new r = MatchResult r (λ _. IsRewritten K b old new) (λ e. IsRefusal K b e × (new ≡ old))

-- what is to be written, and with which outcome
abbrev pub Answers : {A : Type 0} → (A → List ℕ) → Rewriting → List ℕ → Mode → Result (Outcome × A) Error → Type 0
Answers items K b mode r = MatchResult r (λ p. Says K b p.0 mode (items p.1)) (λ e. IsRefusal K b e)

-- the outcome stays, and what goes with it was written
pub record Delivered (outcome : Outcome) (line : List ℕ) (old new : Option (List ℕ)) (failed failed_now : ℕ) (result : Outcome) : Type 0 where
  pub same : result ≡ outcome
  pub appended : Appends old new line
  pub count : failed_now ≡ failed

-- a write failed
pub record CutOff (line : List ℕ) (old new : Option (List ℕ)) (failed failed_now : ℕ) (result : Outcome) : Type 0 where
  pub is_failure : result ≡ WriteFailed
  pub part : AppendsBeginning old new line
  pub count : failed_now ≡ failed + 1

abbrev pub Delivers : Outcome → List ℕ → Option (List ℕ) → Option (List ℕ) → ℕ → ℕ → Outcome → Type 0
Delivers outcome line old new failed failed_now result = Delivered outcome line old new failed failed_now result ⊎ CutOff line old new failed failed_now result

-- what is left in a sink, and how often writing failed
pub record Tells {S : Type 0} (K : Rewriting) (b : List ℕ) (mode : Mode) (received : S → Option (List ℕ)) (old new : S) (failed failed_now : ℕ) (result : Outcome) : Type 0 where
  pub leaves : Leaves K b result mode received old new
  pub reads : read_failures result ≡ 0
  pub writes : failed_now ≡ failed + write_failures result
