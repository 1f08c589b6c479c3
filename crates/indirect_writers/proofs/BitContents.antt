-- The contents octets of a BIT STRING.
use Rattle.std.specs.Prelude.{◌≡◌, ◌≤◌, ◌↔◌, ℕ, IsTrue, Bool, false, List, [], ◌∷◌}
use Rattle.std.proofs.Common.{arith, refl, sym, true≢false}
use Rattle.asn1_leaves_strings.specs.Bits.{IsBits}

pub none : IsTrue false ↔ IsBits []
none = (λ e. true≢false (sym e), λ h. absurd h)

pub alone : (unused : ℕ) (b : Bool) → (IsTrue b ↔ (unused ≡ 0)) → IsTrue b ↔ IsBits (unused ∷ [])
alone unused b is = (λ e. (omega (arith, is.0 e), λ n. is.0 e), λ h. is.1 (h.1 refl))

pub some : (unused x : ℕ) (rest : List ℕ) (b : Bool) → (IsTrue b ↔ (unused ≤ 7)) → IsTrue b ↔ IsBits (unused ∷ x ∷ rest)
some unused x rest b is = (λ e. (is.0 e, λ n. absurd (let m : x ∷ rest ≡ [] = n in cc)), λ h. is.1 h.0)
