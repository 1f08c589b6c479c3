-- Octets that are copied, or their absence.
use Rattle.std.specs.Prelude.{◌≡◌, ◌⊎◌, ◌≤◌, ◌^◌, ℕ, List, length, Option, None, Some, Result, MatchResult}
use Rattle.std.proofs.Common.{Vec, Global}
use Rattle.asn1_core.specs.Der.{option_value}
use Rattle.asn1_core_element.specs.declared.error.Error.{Error}
use Rattle.asn1_core_element.specs.declared.error.Error.TheVariants.{TooLong, Memory}

-- the octets of a vector, or none
abbrev pub copied : Option (Vec ℕ Global) → Option (List ℕ)
copied = option_value (λ v. v.items)

-- there are octets, too many of them
abbrev pub IsLong : Option (List ℕ) → Type 0
IsLong None = ⊥
IsLong (Some octets) = 2 ^ 64 ≤ length octets

-- why these octets weren't copied
abbrev pub IsNotCopied : Option (List ℕ) → Error → Type 0
IsNotCopied octets e = (e ≡ Memory) ⊎ ((e ≡ TooLong) × IsLong octets)

-- these octets were copied, or it is said that there are none
abbrev pub Copies : Option (List ℕ) → Result (Option (Vec ℕ Global)) Error → Type 0
Copies octets r = MatchResult r (λ found. copied found ≡ octets) (λ e. IsNotCopied octets e)

-- octets of which that is so were copied
pub record CopiesOne (Is : Option (List ℕ) → Type 0) (r : Result (Option (Vec ℕ Global)) Error) : Type 0 where
  pub octets : Option (List ℕ)
  pub are : Is octets
  pub copies : Copies octets r

-- what there is of an item, if there is the item
abbrev pub of_some : {A B : Type 0} → (A → Option B) → Option A → Option B
of_some f None = None
of_some f (Some x) = f x
