-- The bits of bytes, as one of them is written.
use Rattle.std.proofs.Common.{◌≡◌, ◌≢◌, ℕ, ◌-◌, ◌*◌, ◌/◌, ◌%◌, ◌^◌, ◌<◌, Bool, true, false, List, length, get_or, set, refl, sym, ap, ap₂, ◌∙◌, arith, ⊎_elim, w8}
use Rattle.std.specs.Int.{bit_at}
use Rattle.std.specs.Int.Bits.{bit_and, bit_or, or_add_and, and_le_l, and_comm}
use Rattle.std.proofs.lemmas.Bool.{cases_eq}
use Rattle.std.proofs.lemmas.Nat.{and-not, pow_below}
use Rattle.std.proofs.lemmas.Nat.Bits.{and_pow, bit_at_set_same, bit_at_set_other, bit_at_clear_same, bit_at_clear_other}
use Rattle.std.proofs.lemmas.List.{length-set, get_or-set_same, get_or-set_other}
use Rattle.asn1_leaves_strings.specs.Bits.{value_of_bit, byte_with, SetsBit}

mask_is : (k : ℕ) → k < 8 → 1 * 2 ^ k % 256 ≡ 2 ^ k
mask_is k h = let p : 2 ^ k < 256 = pow_below k 8 h in omega arith

-- `byte | 1 << k`
pub byte_set : (byte k : ℕ) (value : Bool) → value ≡ true → k < 8 → bit_or byte (1 * 2 ^ k % 256) ≡ byte_with byte k value
byte_set byte k value e h =
    rw (e, mask_is k h)
    (let p = and_pow byte k in
    let q = or_add_and byte (2 ^ k) in
    let r = and_le_l byte (2 ^ k) in
    omega (arith, p, q, r))

-- `byte & !(1 << k)`
pub byte_cleared : (byte k : ℕ) (value : Bool) → value ≡ false → k < 8 → byte < 256 → bit_and byte (255 - 1 * 2 ^ k % 256) ≡ byte_with byte k value
byte_cleared byte k value e h small =
    rw (e, mask_is k h)
    (let p = and_pow byte k in
    let q = and-not 8 (2 ^ k) byte (pow_below k 8 h) small in
    let r = and_comm byte (255 - 2 ^ k) in
    let s = and_comm byte (2 ^ k) in
    omega (arith, p, q, r, s))

-- the byte that holds bit i is written
sets : (bytes : List ℕ) (i at byte : ℕ) (value : Bool) → i / 8 < length bytes → at ≡ 7 - i % 8 → bit_at byte at ≡ value_of_bit value → ((k : ℕ) → k < 8 → k ≢ at → bit_at byte k ≡ bit_at (get_or bytes (i / 8) 0) k) → SetsBit bytes (set bytes (i / 8) byte) i value
sets bytes i at byte value h is here others = record {
  count = length-set bytes (i / 8) byte;
  here = ap₂ bit_at (get_or-set_same bytes (i / 8) byte 0 h) (sym is) ∙ here;
  others = λ j distinct. ⊎_elim
      (λ (same : j / 8 ≡ i / 8).
      let k : 7 - j % 8 ≢ at = λ e. distinct (omega arith) in
      ap (λ b. bit_at b (7 - j % 8)) (ap (λ q. get_or (set bytes (i / 8) byte) q 0) same ∙ get_or-set_same bytes (i / 8) byte 0 h)
      ∙ others (7 - j % 8) (omega arith) k
      ∙ ap (λ q. bit_at (get_or bytes q 0) (7 - j % 8)) (sym same))
      (λ (other : j / 8 ≡ i / 8 → ⊥). ap (λ b. bit_at b (7 - j % 8)) (get_or-set_other bytes (i / 8) (j / 8) byte 0 other))
      (cases_eq (j / 8) (i / 8));
}

-- bit i is set to this value
pub written : (bytes : List ℕ) (i k byte : ℕ) (value : Bool) → i / 8 < length bytes → get_or bytes (i / 8) 0 < 256 → k ≡ 7 - i % 8 → byte ≡ byte_with (get_or bytes (i / 8) 0) k value → SetsBit bytes (set bytes (i / 8) byte) i value
written bytes i k byte true h small at e =
    let old : ℕ = get_or bytes (i / 8) 0 in
    let low : k < 8 = omega arith in
    rw (e ∙ sym (byte_set old k true refl low))
    (sets bytes i k _ true h at (bit_at_set_same w8 old k low) (λ j _ distinct. bit_at_set_other w8 old k low j distinct))
written bytes i k byte false h small at e =
    let old : ℕ = get_or bytes (i / 8) 0 in
    let low : k < 8 = omega arith in
    rw (e ∙ sym (byte_cleared old k false refl low small))
    (sets bytes i k _ false h at (bit_at_clear_same w8 old k low) (λ j near distinct. bit_at_clear_other w8 old k low j near distinct))
