-- The bytes that move through sources and sinks, and the counts of failures.
use Rattle.std.specs.Prelude.{◌≡◌, ℕ, ◌+◌, zero, suc, List, [], ◌∷◌, ◌++◌, Result, MatchResult, Option}
use Rattle.std.specs.Io.KnownBytes.{Appends, Consumes}
use Rattle.asn1_core_streams.specs.declared.source.ReadError.{ReadError}
use Rattle.asn1_core_streams.specs.declared.source.ReadError.TheVariants.{Failed, Memory}

-- a reader or a writer, and how often it failed
pub record Counted (T : Type 0) : Type 0 where
  pub inner : T
  pub failed : ℕ

-- an error raises the count by one, and nothing else does
abbrev pub CountsErrors : {A E : Type 0} → ℕ → ℕ → Result A E → Type 0
CountsErrors old new r = MatchResult r (λ _. new ≡ old) (λ _. new ≡ old + 1)

-- 1 for a write that took none of some bytes, else 0
abbrev pub none_taken : ℕ → List ℕ → ℕ
none_taken (suc _) buf = 0
none_taken zero [] = 0
none_taken zero (_ ∷ _) = 1

-- an error raises the count by one, and so does a write that takes none of some bytes
abbrev pub CountsFailedWrites : {E : Type 0} → ℕ → ℕ → Result ℕ E → List ℕ → Type 0
CountsFailedWrites old new r buf = MatchResult r (λ n. new ≡ old + none_taken n buf) (λ _. new ≡ old + 1)

-- the bytes so far, where they are known, grow by a beginning of these bytes
pub record AppendsBeginning (old new : Option (List ℕ)) (bytes : List ℕ) : Type 0 where
  pub written : List ℕ
  pub unwritten : List ℕ
  pub split : bytes ≡ written ++ unwritten
  pub appended : Appends old new written

-- the bytes to come, where they are known, begin with some bytes, and lose them
pub record ConsumesSome (old new : Option (List ℕ)) : Type 0 where
  pub bytes : List ℕ
  pub consumed : Consumes old new bytes

-- how many reads fail where all is to be read, and is not
abbrev pub failed_reads : ReadError → ℕ
failed_reads Failed = 1
failed_reads Memory = 0
