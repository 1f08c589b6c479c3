-- What the program does with its words, its input and its outputs.
use Rattle.std.specs.Prelude.{◌≡◌, ◌≢◌, ◌⊎◌, ℕ, ◌+◌, List, [], Option, Result, MatchResult}
use Rattle.std.specs.Io.KnownBytes.{Appends}
use Rattle.asn1_core_streams.specs.Streams.{AppendsBeginning}
use Rattle.x509_containers.specs.Kinds.{rewriting_as}
use Rattle.x509_containers.specs.declared.kinds.Kind.{Kind}
use Rattle.der_engine.specs.Engine.{Runs, read_failures, write_failures}
use Rattle.der_engine.specs.declared.outcome.Mode.{Mode}
use Rattle.x509_containers.specs.Answers.{status_of, complaint_of}
use Rattle.x509_containers.specs.Words.{Asks}
use Rattle.x509_containers.specs.declared.program.answers.Answer.{Answer}
use Rattle.x509_containers.specs.declared.program.answers.Answer.TheVariants.{Ran, WrongWords, NoMemory}
use Rattle.x509_containers.specs.declared.program.words.WordsError.{WordsError}
use Rattle.x509_containers.specs.declared.program.words.WordsError.TheVariants.{NotUtf8, Memory}

-- an input is run exactly as the words ask, and words that ask for nothing are wrong
abbrev pub IsAsked : Answer → List (List ℕ) → Type 0
IsAsked (Ran mode kind outcome) words = Asks words mode kind
IsAsked WrongWords words = (mode : Mode) (kind : Kind) → Asks words mode kind → ⊥
IsAsked NoMemory words = ⊥

-- words that aren't UTF-8 are wrong; a lack of memory makes no words wrong
abbrev pub answer_without : WordsError → Answer
answer_without NotUtf8 = WrongWords
answer_without Memory = NoMemory

abbrev pub Fits : {A : Type 0} → (A → List (List ℕ)) → Result A WordsError → Answer → Type 0
Fits words given a = MatchResult given (λ w. IsAsked a (words w)) (λ e. a ≡ answer_without e)

-- what a run leaves of the source and in the output
abbrev pub Did : {R W : Type 0} → Answer → (R → Option (List ℕ)) → (R → ℕ) → (W → Option (List ℕ)) → (W → ℕ) → R → R → W → W → Type 0
Did (Ran mode kind outcome) coming unread received unwritten source source_new output output_new =
    Runs (rewriting_as kind) mode (coming source) received output output_new outcome
    × (unread source_new ≡ unread source + read_failures outcome)
    × (unwritten output_new ≡ unwritten output + write_failures outcome)
Did _ coming unread received unwritten source source_new output output_new = (source_new ≡ source) × (output_new ≡ output)

-- the sink took the line; or a beginning of it, and then failed
abbrev pub Says : List ℕ → Option (List ℕ) → Option (List ℕ) → ℕ → ℕ → Type 0
Says line old new unsaid unsaid_new = (Appends old new line × (unsaid_new ≡ unsaid)) ⊎ (AppendsBeginning old new line × (unsaid_new ≡ unsaid + 1))

-- what is said where there is a line, and that nothing is said where there is none
pub record Complains {C : Type 0} (line : List ℕ) (received : C → Option (List ℕ)) (unsaid : C → ℕ) (old new : C) : Type 0 where
  pub nothing : line ≡ [] → new ≡ old
  pub all : line ≢ [] → Says line (received old) (received new) (unsaid old) (unsaid new)

-- the whole program: the answer to the words decides what it does, what it says and its exit status
pub record Answers {A R W C : Type 0} (words : A → List (List ℕ)) (given : Result A WordsError)
    (coming : R → Option (List ℕ)) (unread : R → ℕ) (received : W → Option (List ℕ)) (unwritten : W → ℕ) (said : C → Option (List ℕ)) (unsaid : C → ℕ)
    (source source_new : R) (output output_new : W) (complaints complaints_new : C) (exit : ℕ) : Type 0 where
  pub answer : Answer
  pub fits : Fits words given answer
  pub did : Did answer coming unread received unwritten source source_new output output_new
  pub complaint : Complains (complaint_of answer) said unsaid complaints complaints_new
  pub status : exit ≡ status_of answer
