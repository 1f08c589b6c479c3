-- What the program writes of an input, and what its outcome tells.
use Rattle.std.specs.Prelude.{◌≡◌, ◌≢◌, ℕ, ◌≤◌, ◌^◌, List, ◌++◌, length, Option, IfSome}
use Rattle.std.specs.Io.KnownBytes.{Appends}
use Rattle.asn1_core_element.specs.declared.error.Error.{Error}
use Rattle.asn1_core_element.specs.declared.error.Error.TheVariants.{TooLong, Memory}
use Rattle.asn1_core_format.specs.Format.{Format}
use Rattle.der_engine.specs.Lines.{normal_line, loose_line, refusal_line}
use Rattle.der_engine.specs.declared.outcome.Mode.{Mode}
use Rattle.der_engine.specs.declared.outcome.Mode.TheVariants.{Check, Rewrite}
use Rattle.der_engine.specs.declared.outcome.Outcome.{Outcome}
use Rattle.der_engine.specs.declared.outcome.Outcome.TheVariants.{Normal, Loose, Written, Refused, ReadFailed, WriteFailed}

-- What a type makes of inputs, in words of bytes alone, so that one statement serves types of different values.
pub record Rewriting : Type 1 where
  -- t is the encoding of a value of b; an input that has no t isn't in the grammar
  pub To : List ℕ → List ℕ → Type 0
  -- the normal grammar
  pub IsNormal : List ℕ → Type 0

-- t is the encoding of a value of b, whose nesting has at most so many levels
pub record Rewrites {V : Type 0} (F : Format V) (limit : ℕ) (b t : List ℕ) : Type 0 where
  pub value : V
  pub reads : F.Reads limit b value
  pub text : t ≡ F.text value

abbrev pub rewriting_at : {V : Type 0} → Format V → ℕ → Rewriting
rewriting_at F limit = record { To = Rewrites F limit; IsNormal = F.IsNormal limit }

-- with at most 64 levels, as `from_bytes` reads
abbrev pub rewriting_of : {V : Type 0} → Format V → Rewriting
rewriting_of F = rewriting_at F 64

-- why nothing is made of b: its encoding doesn't fit, memory was refused, or b isn't in the grammar
pub record IsRefusal (K : Rewriting) (b : List ℕ) (e : Error) : Type 0 where
  pub long : e ≡ TooLong → (t : List ℕ) × K.To b t × (2 ^ 64 ≤ length t)
  pub none : e ≢ TooLong → e ≢ Memory → (t : List ℕ) → K.To b t → ⊥

-- b is the encoding of its value
pub record SaysNormal (K : Rewriting) (b w : List ℕ) : Type 0 where
  pub same : K.To b b
  pub normal : K.IsNormal b
  pub line : w ≡ normal_line (length b)

-- the encoding of a value of b is another
pub record SaysLoose (K : Rewriting) (b w : List ℕ) : Type 0 where
  pub text : List ℕ
  pub to : K.To b text
  pub other : text ≢ b
  pub loose : ¬ K.IsNormal b
  pub line : w ≡ loose_line (length b) (length text)

pub record SaysRefused (K : Rewriting) (b : List ℕ) (e : Error) (mode : Mode) (w : List ℕ) : Type 0 where
  pub refusal : IsRefusal K b e
  pub line : w ≡ refusal_line mode e

-- what is written of b with which outcome, where nothing fails
abbrev pub Says : Rewriting → List ℕ → Outcome → Mode → List ℕ → Type 0
Says K b Normal Check w = SaysNormal K b w
Says K b Loose Check w = SaysLoose K b w
Says K b Written Rewrite w = K.To b w
Says K b (Refused e) mode w = SaysRefused K b e mode w
Says K b _ mode w = ⊥

-- the sink took all that is written of b
pub record Distinct (K : Rewriting) (b : List ℕ) (outcome : Outcome) (mode : Mode) (old new : Option (List ℕ)) : Type 0 where
  pub written : List ℕ
  pub says : Says K b outcome mode written
  pub appended : Appends old new written

-- the sink took a beginning of what is written of b with another outcome
pub record CutShort (K : Rewriting) (b : List ℕ) (mode : Mode) (old new : Option (List ℕ)) : Type 0 where
  pub outcome : Outcome
  pub written : List ℕ
  pub unwritten : List ℕ
  pub says : Says K b outcome mode (written ++ unwritten)
  pub appended : Appends old new written

-- what is left in a sink, where b is the input
abbrev pub Leaves : {S : Type 0} → Rewriting → List ℕ → Outcome → Mode → (S → Option (List ℕ)) → S → S → Type 0
Leaves K b ReadFailed mode received old new = new ≡ old
Leaves K b WriteFailed mode received old new = CutShort K b mode (received old) (received new)
Leaves K b outcome mode received old new = Distinct K b outcome mode (received old) (received new)

-- what a run leaves in a sink
pub record Runs {S : Type 0} (K : Rewriting) (mode : Mode) (coming : Option (List ℕ)) (received : S → Option (List ℕ)) (old new : S) (outcome : Outcome) : Type 0 where
  pub input : List ℕ
  -- the input is all that the source gives, where that is known
  pub is_all : IfSome coming (λ all. input ≡ all)
  pub leaves : Leaves K input outcome mode received old new

-- how many reads failed
abbrev pub read_failures : Outcome → ℕ
read_failures ReadFailed = 1
read_failures _ = 0

-- how many writes failed
abbrev pub write_failures : Outcome → ℕ
write_failures WriteFailed = 1
write_failures _ = 0
