-- The contents octets of a BIT STRING (X.690, 8.6.2): the count of unused bits, and the bytes that hold the bits.
use Rattle.std.specs.Prelude.{◌≡◌, ◌≢◌, ℕ, ◌+◌, ◌-◌, ◌*◌, ◌/◌, ◌%◌, ◌^◌, ◌≤◌, Bool, List, [], ◌∷◌, length, slice_index, slice_set, if◌then◌else◌}
use Rattle.std.specs.Int.{bit_at}
use Rattle.std.specs.List.{All}

-- At most 7 bits of the last byte are unused, and where there is no byte none is.
abbrev pub IsBits : List ℕ → Type 0
IsBits [] = ⊥
IsBits (unused ∷ bytes) = (unused ≤ 7) × (bytes ≡ [] → unused ≡ 0)

-- how many bits the string has
abbrev pub bit_count : List ℕ → ℕ
bit_count [] = 0
bit_count (unused ∷ bytes) = 8 * length bytes - unused

-- bit i of the bytes, counted from the highest bit of the first byte on
abbrev pub bit : List ℕ → ℕ → ℕ
bit bytes i = bit_at (slice_index bytes (i / 8)) (7 - i % 8)

abbrev pub IsAllZero : List ℕ → Type 0
IsAllZero bytes = All (λ byte. byte ≡ 0) bytes

abbrev pub value_of_bit : Bool → ℕ
value_of_bit value = if value then 1 else 0

-- the byte with bit k, counted from the lowest, set to this value
abbrev pub byte_with : ℕ → ℕ → Bool → ℕ
byte_with byte k value = byte - bit_at byte k * 2 ^ k + value_of_bit value * 2 ^ k

-- the bytes with bit i set to this value
abbrev pub with_bit : List ℕ → ℕ → Bool → List ℕ
with_bit bytes i value = slice_set bytes (i / 8) (byte_with (slice_index bytes (i / 8)) (7 - i % 8) value)

-- bit `index` has this value, and every other bit is as before
pub record SetsBit (old new : List ℕ) (index : ℕ) (value : Bool) : Type 0 where
  pub count : length new ≡ length old
  pub here : bit new index ≡ value_of_bit value
  pub others : (i : ℕ) → i ≢ index → bit new i ≡ bit old i
