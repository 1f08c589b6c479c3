-- The digits of a length.
use Rattle.std.proofs.Common.{◌≡◌, ℕ, zero, suc, ◌+◌, ◌*◌, ◌/◌, ◌%◌, ◌^◌, ◌<◌, ◌≤◌, List, [], ◌∷◌, ◌++◌, length, take, get_or, refl, sym, ap, ◌∙◌, arith, append_assoc, length-take}
use Rattle.std.specs.Int.Digits.{digits_of, AllBelowBase, number_from_digits, number_from_digits_after}
use Rattle.std.proofs.lemmas.List.{append-nil}
use Rattle.std.proofs.lemmas.Nat.{div-mul-add, mod-mul-add}
use Rattle.std.proofs.Math.Nat.{pow-le-pow_right}
use Rattle.std.proofs.lemmas.Int.Digits.{number_lt, number_more, digits_of_step}

-- each byte is below 256
pub all_bytes : (ds : List ℕ) → ((i : ℕ) → get_or ds i 0 < 256) → AllBelowBase 256 ds
all_bytes [] h = tt
all_bytes (d ∷ ds) h = (h 0, all_bytes ds (λ i. h (suc i)))

pub all_bytes_take : (n : ℕ) (ds : List ℕ) → AllBelowBase 256 ds → AllBelowBase 256 (take n ds)
all_bytes_take zero ds h = tt
all_bytes_take (suc n) [] h = tt
all_bytes_take (suc n) (d ∷ ds) h = (h.0, all_bytes_take n ds h.1)

pub number_small : (ds : List ℕ) → AllBelowBase 256 ds → length ds ≤ 8 → number_from_digits 256 ds < 2 ^ 64
number_small ds h l =
    let p : 256 ^ length ds ≤ 256 ^ 8 = pow-le-pow_right (omega arith) l in
    let e : 256 ^ 8 ≡ 2 ^ 64 = refl in
    omega (arith, number_lt 256 ds h, p)

pub digit_fits : (ds : List ℕ) (i : ℕ) → ((j : ℕ) → get_or ds j 0 < 256) → i < length ds → length ds ≤ 8 → number_from_digits 256 (take i ds) * 256 + get_or ds i 0 < 2 ^ 64
digit_fits ds i h l k =
    let m : length (take (i + 1) ds) ≤ 8 = omega (arith, length-take (i + 1) ds) in
    omega (arith, number_more 256 ds i l, number_small (take (i + 1) ds) (all_bytes_take (i + 1) ds (all_bytes ds h)) m)

-- no digit before the first above 0 is lost
pub digits_after : (n : ℕ) (ds : List ℕ) → 0 < n → AllBelowBase 256 ds → digits_of 256 (number_from_digits_after 256 n ds) ≡ digits_of 256 n ++ ds
digits_after n [] p h = sym (append-nil (digits_of 256 n))
digits_after n (d ∷ ds) p h =
    let q : 0 < n * 256 + d = omega arith in
    let e : digits_of 256 (n * 256 + d) ≡ digits_of 256 n ++ d ∷ [] =
    digits_of_step 256 (n * 256 + d) (omega arith) q ∙ rw (div-mul-add n 256 d h.0, mod-mul-add n 256 d h.0) refl in
    digits_after (n * 256 + d) ds q h.1 ∙ ap (λ x. x ++ ds) e ∙ append_assoc (digits_of 256 n) (d ∷ []) ds

-- the bytes of a number, of which the first isn't 0, are its digits
pub digits_of_number : (ds : List ℕ) → AllBelowBase 256 ds → 0 < get_or ds 0 0 → digits_of 256 (number_from_digits 256 ds) ≡ ds
digits_of_number [] h p = absurd (omega (arith, p))
digits_of_number (d ∷ ds) h p =
    let e : 0 * 256 + d ≡ d = omega arith in
    let z : d / 256 ≡ 0 = omega arith in
    let m : d % 256 ≡ d = omega arith in
    let f : digits_of 256 d ≡ d ∷ [] =
    digits_of_step 256 d (omega arith) p ∙ ap (λ q. digits_of 256 q ++ (d % 256 ∷ [])) z ∙ ap (λ r. r ∷ []) m in
    ap (λ n. digits_of 256 (number_from_digits_after 256 n ds)) e ∙ digits_after d ds p h.1 ∙ ap (λ x. x ++ ds) f
