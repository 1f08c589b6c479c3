-- The octets of a number, one after another.
use Rattle.std.proofs.Common.{◌≡◌, ℕ, zero, suc, ◌+◌, ◌-◌, ◌/◌, ◌%◌, ◌<◌, ◌≤◌, List, [], ◌∷◌, ◌++◌, length, drop, set, refl, sym, ap, ◌∙◌, arith, ⊎_elim, length-append, append_assoc}
use Rattle.std.proofs.lemmas.Bool.{cases_lt}
use Rattle.std.proofs.lemmas.Grind.{common_steps}
use Rattle.std.proofs.lemmas.List.{drop-set}
use Rattle.std.specs.Int.Digits.{digits_of}
use Rattle.std.proofs.lemmas.Int.Digits.{digits_of_step}
use Rattle.asn1_core_element.specs.Numbers.{with_sign, integer_octets}
use Rattle.asn1_core_element.specs.laws.NumberLaws.{with_sign_low, with_sign_high}

push_with_sign : (ds : List ℕ) (d : ℕ) → (length ds ≡ 0 → 128 ≤ d) → with_sign (ds ++ (d ∷ [])) ≡ with_sign ds ++ (d ∷ [])
push_with_sign [] d h = with_sign_high d [] (h refl)
push_with_sign (e ∷ es) d h =
    ⊎_elim
    (λ (k : e < 128). with_sign_low e (es ++ (d ∷ [])) k ∙ ap (λ l. l ++ (d ∷ [])) (sym (with_sign_low e es k)))
    (λ (k : 128 ≤ e). with_sign_high e (es ++ (d ∷ [])) k ∙ ap (λ l. l ++ (d ∷ [])) (sym (with_sign_high e es k)))
    (cases_lt e 128)

no_digits : (n : ℕ) → length (digits_of 256 n) ≡ 0 → n ≡ 0
no_digits zero e = refl
no_digits (suc n) e =
    let s = ap length (digits_of_step 256 (suc n) (omega arith) (omega arith)) in
    absurd (omega (arith, e, s, length-append (digits_of 256 (suc n / 256)) (suc n % 256 ∷ [])))

pub octets_step : (n : ℕ) → 128 ≤ n → integer_octets n ≡ integer_octets (n / 256) ++ (n % 256 ∷ [])
octets_step n h =
    ap with_sign (digits_of_step 256 n (omega arith) (omega arith))
    ∙ push_with_sign (digits_of 256 (n / 256)) (n % 256) (λ e. omega (arith, no_digits (n / 256) e))

pub octets_small : (n : ℕ) → n < 128 → integer_octets n ≡ n ∷ []
octets_small zero h = refl
octets_small (suc n) h =
    let z : suc n / 256 ≡ 0 = omega arith in
    let m : suc n % 256 ≡ suc n = omega arith in
    let f : digits_of 256 (suc n) ≡ suc n ∷ [] =
    digits_of_step 256 (suc n) (omega arith) (omega arith) ∙ ap (λ q. digits_of 256 q ++ (suc n % 256 ∷ [])) z ∙ ap (λ r. r ∷ []) m in
    ap with_sign f ∙ with_sign_low (suc n) [] h

pub octets_start : (n : ℕ) (xs : List ℕ) → length xs ≡ 5 → integer_octets n ≡ integer_octets n ++ drop 5 xs
octets_start n xs e = grind (arith, common_steps)

pub octets_more : (n rest at : ℕ) (xs : List ℕ) → 128 ≤ rest → integer_octets n ≡ integer_octets rest ++ drop at xs → 0 < at → at ≤ length xs → integer_octets n ≡ integer_octets (rest / 256) ++ drop (at - 1) (set xs (at - 1) (rest % 256))
octets_more n rest at xs p e q l =
    let d : drop (at - 1) (set xs (at - 1) (rest % 256)) ≡ rest % 256 ∷ drop (at - 1 + 1) xs = drop-set xs (at - 1) (rest % 256) (omega arith) in
    let s : at - 1 + 1 ≡ at = omega arith in
    e ∙ ap (λ x. x ++ drop at xs) (octets_step rest p) ∙ append_assoc (integer_octets (rest / 256)) (rest % 256 ∷ []) (drop at xs)
    ∙ ap (λ k. integer_octets (rest / 256) ++ rest % 256 ∷ drop k xs) (sym s) ∙ ap (λ x. integer_octets (rest / 256) ++ x) (sym d)

pub fewer_octets : (rest at : ℕ) → 128 ≤ rest → length (integer_octets rest) ≤ at → length (integer_octets (rest / 256)) ≤ at - 1
fewer_octets rest at p l = omega (arith, l, ap length (octets_step rest p), length-append (integer_octets (rest / 256)) (rest % 256 ∷ []))

pub octets_last : (n rest at : ℕ) (xs : List ℕ) → rest < 128 → integer_octets n ≡ integer_octets rest ++ drop at xs → 0 < at → at ≤ length xs → drop (at - 1) (set xs (at - 1) rest) ≡ integer_octets n
octets_last n rest at xs p e q l =
    let s : at - 1 + 1 ≡ at = omega arith in
    drop-set xs (at - 1) rest (omega arith) ∙ ap (λ k. rest ∷ drop k xs) s ∙ sym (e ∙ ap (λ x. x ++ drop at xs) (octets_small rest p))

pub some_octets : (rest at : ℕ) → length (integer_octets rest) ≤ at → 0 < length (integer_octets rest) → 0 < at
some_octets rest at l p = omega (arith, l, p)
