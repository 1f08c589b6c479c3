-- No encoding of BER is a proper beginning of another, and each has one DER.
use Rattle.std.proofs.Common.{◌≡◌, ℕ, List, ◌++◌}
use Rattle.ber_der.specs.declared.contexts.Role.{Role}

-- R cuts: what begins alike is alike
abbrev pub IsCut : (Role → List ℕ → List ℕ → Type 0) → Type 0
IsCut R = (role : Role) (a b d e x y : List ℕ) → R role a d → R role b e → a ++ x ≡ b ++ y → (a ≡ b) × (d ≡ e) × (x ≡ y)
