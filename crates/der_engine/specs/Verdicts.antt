-- What is said of an input that is accepted, and where it is refused.
use Rattle.std.specs.Prelude.{◌≡◌, ◌↔◌, ◌≤◌, ℕ, Bool, List, length, Option, None, IfSome, Result, Ok, Err, MatchResult}
use Rattle.std.specs.Option.{is_none}
use Rattle.asn1_core_element.specs.declared.error.Error.{Error}
use Rattle.asn1_core_element.specs.declared.error.Error.TheVariants.{TooLong}
use Rattle.asn1_core_writers.specs.Comparing.{IsLongestEnd}
use Rattle.der_engine.specs.Engine.{Rewriting, IsRefusal}
use Rattle.der_engine.specs.declared.verdict.Verdict.{Verdict}

-- b has one encoding. It has no loose end exactly where it is that encoding, which is where it is normal. From its loose
-- end on it has the longest end that both have.
pub record IsLocated (K : Rewriting) (b : List ℕ) (loose_end : Option ℕ) (size : ℕ) : Type 0 where
  pub text : List ℕ
  pub to : K.To b text
  pub only : (t : List ℕ) → K.To b t → t ≡ text
  pub long : size ≡ length text
  pub same : (loose_end ≡ None) ↔ (text ≡ b)
  pub normal : (loose_end ≡ None) ↔ K.IsNormal b
  pub end : IfSome loose_end (λ n. IsLongestEnd text b n)

-- why b has no verdict, and at which place; an encoding that is too long has none in the input
pub record IsRefusedAt (K : Rewriting) (b : List ℕ) (e : Error) (place : ℕ) : Type 0 where
  pub why : IsRefusal K b e
  pub inside : place ≤ length b
  pub too_long : e ≡ TooLong → place ≡ 0

abbrev pub Locates : Rewriting → List ℕ → Result Verdict (Error × ℕ) → Type 0
Locates K b r = MatchResult r (λ v. IsLocated K b v.loose_end v.encoding_len) (λ e. IsRefusedAt K b e.0 e.1)

-- without the places
abbrev pub check_of : Result Verdict (Error × ℕ) → Result (Bool × ℕ) Error
check_of (Ok v) = Ok (is_none v.loose_end, v.encoding_len)
check_of (Err e) = Err e.0

-- the loose end alone
abbrev pub end_of : Result Verdict (Error × ℕ) → Result (Option ℕ) Error
end_of (Ok v) = Ok v.loose_end
end_of (Err e) = Err e.0

abbrev pub FindsEnd : Rewriting → List ℕ → Result (Option ℕ) Error → Type 0
FindsEnd K b r = MatchResult r (λ loose_end. (size : ℕ) × IsLocated K b loose_end size) (λ e. IsRefusal K b e)
