-- What a walk finds lies in the octets that it began with, and is one place.
use Rattle.std.specs.Prelude.{◌≡◌, ◌+◌, ℕ, List, ◌++◌, length}

AnyTag : ℕ → Type 0
AnyTag t = Unit {0}

-- there is one place to go to
abbrev pub AreOne : ℕ → List ℕ → ℕ → List ℕ → Type 0
AreOne n y o z = (n ≡ o) × (y ≡ z)

-- x is some octets, y and some octets
pub record LiesIn (m : ℕ) (x : List ℕ) (n : ℕ) (y : List ℕ) : Type 0 where
  pub before : List ℕ
  pub after : List ℕ
  pub is : x ≡ before ++ (y ++ after)
  pub place : n ≡ m + length before
