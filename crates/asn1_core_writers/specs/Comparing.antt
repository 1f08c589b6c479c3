-- What a comparison with an input knows of an encoding.
use Rattle.std.specs.Prelude.{◌≡◌, ◌↔◌, ℕ, ◌+◌, ◌≤◌, ◌^◌, List, [], ◌++◌, length, drop, Option, None, Some, Result, Ok, Err, MatchResult}
use Rattle.std.proofs.Common.{Bor, refl, sym, ap, ◌∙◌, arith, append-nil, length-append}
use Rattle.std.proofs.lemmas.List.{length-drop}
use Rattle.std.proofs.Math.Seq.{drop-length}
use Rattle.asn1_core_writers.specs.Writers.{Outcome}
use Rattle.asn1_core_writers.specs.declared.writer.WriteError.TheVariants.{TooLong}

-- what an input has before an encoding at its end, or, where that is no end of it, how many bytes before the longest end
-- of both; and the encoding's length
pub record Comparison : Type 0 where
  pub before : Result (List ℕ) ℕ
  pub total : ℕ

abbrev pub borrowed : Result (Bor (List ℕ)) ℕ → Result (List ℕ) ℕ
borrowed (Ok b) = Ok b.now
borrowed (Err n) = Err n

abbrev pub before_of : Result (List ℕ) ℕ → Option (List ℕ)
before_of (Ok b) = Some b
before_of (Err n) = None

-- how many bytes the input has before the longest end of both
abbrev pub place_of : Result (List ℕ) ℕ → ℕ
place_of (Ok b) = length b
place_of (Err n) = n

-- what was before the end t: some bytes that t followed
abbrev pub IsBefore : List ℕ → Option (List ℕ) → Option (List ℕ) → Type 0
IsBefore t whole before = (b : List ℕ) → (before ≡ Some b) ↔ (whole ≡ Some (b ++ t))

-- what b has from n on is what t ends in too, and nothing longer is
pub record IsLongestEnd (t b : List ℕ) (n : ℕ) : Type 0 where
  pub front : List ℕ
  pub ends : t ≡ front ++ drop n b
  pub inside : n ≤ length b
  pub longest : (m : ℕ) (other : List ℕ) → t ≡ other ++ drop m b → n ≤ m

-- where the longest end begins; once an encoding was no end, more of it changes nothing
abbrev pub IsPlace : List ℕ → Result (List ℕ) ℕ → Result (List ℕ) ℕ → Type 0
IsPlace t (Ok b) after = IsLongestEnd t b (place_of after)
IsPlace t (Err n) after = place_of after ≡ n

-- t was taken
pub record Compared (t : List ℕ) (w x : Comparison) : Type 0 where
  pub total : x.total ≡ w.total + length t
  pub before : IsBefore t (before_of w.before) (before_of x.before)
  pub place : IsPlace t w.before x.before

abbrev pub ComparesTo : Outcome Comparison
ComparesTo t w x r = MatchResult r (λ _. Compared t w x) (λ e. (e ≡ TooLong) × (2 ^ 64 ≤ w.total + length t))

-- nothing of b is an end of no bytes but its end
pub no_end : (b : List ℕ) → IsLongestEnd [] b (length b)
no_end b = record {
  front = [];
  ends = sym (drop-length b);
  inside = omega arith;
  longest = λ m other e. omega (arith, ap length e, length-append other (drop m b), length-drop m b);
}

same_place : (o : Result (List ℕ) ℕ) → IsPlace [] o o
same_place (Ok b) = no_end b
same_place (Err n) = refl

pub compared_nothing : (w : Comparison) → Compared [] w w
compared_nothing w = record {
  total = omega arith;
  before = λ b. (λ e. e ∙ ap Some (sym (append-nil b)), λ e. e ∙ ap Some (append-nil b));
  place = same_place w.before;
}
