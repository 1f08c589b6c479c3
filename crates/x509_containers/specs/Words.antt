-- What the words of a command line ask for.
use Rattle.std.specs.Prelude.{◌≡◌, ◌↔◌, ℕ, List, [], ◌∷◌, Result, MatchResult}
use Rattle.std.specs.IoError.{error_kind}
use Rattle.std.specs.declared.io.Error.{Error}
use Rattle.std.specs.declared.io.ErrorKind.TheVariants.{OutOfMemory}
use Rattle.x509_containers.specs.Kinds.{word_of}
use Rattle.x509_containers.specs.declared.kinds.Kind.{Kind}
use Rattle.der_engine.specs.Modes.{word_of_mode}
use Rattle.der_engine.specs.declared.outcome.Mode.{Mode}
use Rattle.x509_containers.specs.declared.program.words.WordsError.{WordsError}
use Rattle.x509_containers.specs.declared.program.words.WordsError.TheVariants.{Memory}

-- after the program's name there are a word for the mode and one for the kind, and no more
abbrev pub Asks : List (List ℕ) → Mode → Kind → Type 0
Asks words mode kind = (name : List ℕ) × (words ≡ name ∷ word_of_mode mode ∷ word_of kind ∷ [])

-- the words that were given, in their order; or why there are none: memory was refused, or they aren't UTF-8
abbrev pub GivesWords : {A B W : Type 0} → (A → List W) → (B → List W) → Result A Error → Result B WordsError → Type 0
GivesWords given read a r =
    MatchResult a (λ x. MatchResult r (λ y. read y ≡ given x) (λ w. w ≡ Memory))
    (λ e. MatchResult r (λ _. ⊥) (λ w. (w ≡ Memory) ↔ (error_kind e ≡ OutOfMemory)))
