-- Named bits of a BIT STRING.
use Rattle.std.specs.Prelude.{◌≡◌, ◌<◌, ℕ, List, [], ◌∷◌}
use Rattle.asn1_leaves_strings.specs.Bits.{bit, bit_count}

-- whether these contents have that bit, and it is 1
abbrev pub HasBit : List ℕ → ℕ → Type 0
HasBit [] i = ⊥
HasBit (unused ∷ bytes) i = (i < bit_count (unused ∷ bytes)) × (bit bytes i ≡ 1)
