-- What verdicts say of an input, and of a place in it.
use Rattle.std.specs.Prelude.{◌≡◌, ◌≢◌, ◌↔◌, ◌≤◌, ◌-◌, ℕ, List, length, Option, None, IfSome, IsSome}
use Rattle.asn1_core_element.specs.declared.error.Error.{Error}
use Rattle.asn1_core_element.specs.declared.error.Error.TheVariants.{TooLong, Memory, Missing}
use Rattle.der_engine.specs.Engine.{Rewriting, IsRefusal}
use Rattle.der_engine.specs.Verdicts.{IsLocated}
use Rattle.dertree.specs.declared.verdict.Verdict.{Verdict}
use Rattle.dertree.specs.declared.verdict.Verdict.TheVariants.{Normal, Loose, Refused}

-- Why it is refused, and where: nowhere in it, where its encoding is too long or memory was refused.
pub record IsRefusedThere (K : Rewriting) (input : List ℕ) (e : Error) (place : Option ℕ) : Type 0 where
  pub why : IsRefusal K input e
  pub somewhere : IsSome place ↔ (e ≢ TooLong) × (e ≢ Memory)
  pub inside : IfSome place (λ n. n ≤ length input)

-- what checking answers of it: the place is its loose end, or where it is refused
abbrev pub Says : Rewriting → List ℕ → Verdict → Option ℕ → Type 0
Says K input (Normal len) place = (place ≡ None) × IsLocated K input place len
Says K input (Loose len canonical_len) place = (len ≡ length input) × IsLocated K input place canonical_len
Says K input (Refused e) place = IsRefusedThere K input e place

-- The verdict is about what ends at its place: what isn't canonical before it, or contents in which an element is missing.
abbrev pub IsOfEnd : Verdict → Type 0
IsOfEnd (Normal len) = ⊥
IsOfEnd (Loose len canonical_len) = Unit {0}
IsOfEnd (Refused e) = e ≡ Missing

-- The octet of an input that a verdict with that place is about: the last before the place, or the one there.
pub record IsOctetOf (verdict : Verdict) (place octet : ℕ) : Type 0 where
  pub last : IsOfEnd verdict → octet ≡ place - 1
  pub first : ¬ IsOfEnd verdict → octet ≡ place
