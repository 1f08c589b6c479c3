-- Parts that are read before they are written.
use Rattle.std.specs.Prelude.{◌≡◌, ℕ, List}
use Rattle.asn1_core.specs.Der.{Format}
use Rattle.asn1_core_element.specs.declared.error.Error.TheVariants.{Memory}
use Rattle.call_values.specs.declared.not_built.NotBuilt.{NotBuilt}
use Rattle.call_values.specs.declared.not_built.NotBuilt.TheVariants.{Part, Refused}

-- there is one of which P holds
abbrev pub HasOne : {X : Type 0} → (X → Type 0) → Type 0
HasOne {X} P = (x : X) × P x

-- the octets have a value
abbrev pub IsReadAs : {V : Type 0} → Format V → List ℕ → Type 0
IsReadAs F x = HasOne (F.Reads 64 x)

-- P doesn't hold, or memory was refused
abbrev pub IsUnread : Type 0 → NotBuilt → Type 0
IsUnread P (Part n) = P → ⊥
IsUnread P (Refused e) = e ≡ Memory

-- the same, where Wrong says which part's number it is
abbrev pub IsUnreadOf : (ℕ → Type 0) → Type 0 → NotBuilt → Type 0
IsUnreadOf Wrong P (Part n) = Wrong n × (P → ⊥)
IsUnreadOf Wrong P (Refused e) = e ≡ Memory

-- or that of this one
abbrev pub IsUnreadAt : ℕ → Type 0 → NotBuilt → Type 0
IsUnreadAt number = IsUnreadOf (λ n. n ≡ number)
