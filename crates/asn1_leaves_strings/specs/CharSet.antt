-- What a constructor promises that takes the octets of one character set.
use Rattle.std.specs.Prelude.{◌≡◌, ℕ, List, Result, MatchResult}

-- It succeeds exactly where the octets are of the set, and the value then holds just these.
abbrev pub TakesOctets : {T E : Type 0} → (List ℕ → Type 0) → (T → List ℕ) → List ℕ → Result T E → Type 0
TakesOctets IsOfSet octets_of octets result =
    MatchResult result (λ s. (octets_of s ≡ octets) × IsOfSet octets) (λ _. ¬ (IsOfSet octets))
