-- What a first byte is, and what is the same at more levels.
use Rattle.std.proofs.Common.{◌≡◌, ◌↔◌, ℕ, List, [], ◌∷◌}
use Rattle.asn1_core_format.specs.Format.{Format}

-- the first byte is one of these
abbrev pub NextIs : (ℕ → Type 0) → List ℕ → Type 0
NextIs IsTag [] = ⊥
NextIs IsTag (t ∷ b) = IsTag t

-- at more levels the bytes have the same value, and are normal exactly where they were
pub record IsSameAt {V : Type 0} (F : Format V) (k j : ℕ) (b : List ℕ) (v : V) : Type 0 where
  pub reads : F.Reads j b v
  pub only : (w : V) → F.Reads j b w → w ≡ v
  pub normal : F.IsNormal j b ↔ F.IsNormal k b
