-- What a buffer takes after what it holds.
use Rattle.std.specs.Prelude.{◌≡◌, ℕ, ◌+◌, ◌≤◌, ◌^◌, List, [], ◌++◌, length, Result, MatchResult}
use Rattle.std.proofs.Common.{sym, arith, append-nil}
use Rattle.asn1_core_writers.specs.declared.writer.WriteError.{WriteError}

-- the encoding was appended, and no room was lost; or there was no room for it, or its length doesn't fit
abbrev pub AppendingTakes : List ℕ → List ℕ → ℕ → List ℕ → ℕ → Result (Unit {0}) WriteError → Type 0
AppendingTakes text old room new more r = MatchResult r (λ _. (new ≡ old ++ text) × (room ≤ more)) (λ e. length old + length text ≤ room → 2 ^ 64 ≤ length text)

pub appended_nothing : (old : List ℕ) (room : ℕ) → (old ≡ old ++ []) × (room ≤ room)
appended_nothing old room = (sym (append-nil old), omega arith)
