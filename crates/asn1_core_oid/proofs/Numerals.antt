-- Which texts are numerals without leading zeros.
use Rattle.std.proofs.Common.{◌≡◌, ◌≢◌, ℕ, zero, suc, ◌^◌, ◌<◌, ◌≤◌, List, [], ◌∷◌, length, get_or, Option, Result, Ok, Err, MatchOption, sym, ap, ◌∙◌, arith, subst}
use Rattle.std.specs.Result.{result_ok}
use Rattle.std.specs.Fmt.{decimal}
use Rattle.std.specs.Str.Parse.{ParsesUnsigned, AllDigits, digits_value}
use Rattle.std.proofs.lemmas.Str.Parse.{parse_plain, digit_at}
use Rattle.std.proofs.lemmas.Fmt.{decimal_digit, decimal_nonempty, first_decimal, digits_decimal, digits_value-decimal, decimal-digits_value}
use Rattle.asn1_core_oid.specs.laws.OidTextLaws.{digit_model}

pub zero_alone : (bs : List ℕ) → get_or bs 0 0 ≡ 48 → length bs ≡ 1 → bs ≡ decimal 0
zero_alone [] e l = absurd (omega (arith, l))
zero_alone (c ∷ []) e l = ap (λ d. d ∷ []) e ∙ sym (decimal_digit 0 (omega arith))
zero_alone (c ∷ d ∷ bs) e l = absurd (omega (arith, l))

pub long_zero : (bs : List ℕ) → get_or bs 0 0 ≡ 48 → (length bs ≡ 1 → ⊥) → (n : ℕ) → n < 2 ^ 64 → bs ≡ decimal n → ⊥
long_zero bs e l zero h s = l (ap length (s ∙ decimal_digit 0 (omega arith)))
long_zero bs e l (suc n) h s = omega (arith, e, ap (λ t. get_or t 0 0) s, first_decimal (suc n) (omega arith) h)

starts_with_digit : (n : ℕ) → n < 2 ^ 64 → 48 ≤ get_or (decimal n) 0 0
starts_with_digit n h = (digit_at (decimal n) 0 (digits_decimal digit_model n h) (decimal_nonempty n h)).0

pub plus_first : (bs : List ℕ) → get_or bs 0 0 ≡ 43 → (n : ℕ) → n < 2 ^ 64 → bs ≡ decimal n → ⊥
plus_first bs e n h s = omega (arith, e, ap (λ t. get_or t 0 0) s, starts_with_digit n h)

parsed_result : {E : Type 0} (bs : List ℕ) (r : Result ℕ E) → get_or bs 0 0 ≢ 48 → get_or bs 0 0 ≢ 43 → ParsesUnsigned 64 10 bs r → MatchOption (result_ok r) ((n : ℕ) → n < 2 ^ 64 → bs ≢ decimal n) (λ n. (n < 2 ^ 64) × (bs ≡ decimal n))
parsed_result {E} bs (Ok x) z p h =
    let r = parse_plain digit_model {E = E} 64 bs (Ok x) h p in
    (omega (arith, r.0.2, r.1), sym (ap decimal r.1 ∙ decimal-digits_value digit_model bs r.0.0 r.0.1 (λ e. absurd (z e)) r.0.2))
parsed_result {E} bs (Err d) z p h =
    let r = parse_plain digit_model {E = E} 64 bs (Err d) h p in
    let P : List ℕ → Type 0 = λ t. AllDigits 10 t × (0 < length t) × (digits_value 10 t < 2 ^ 64) in
    λ n small s. r (subst P (sym s) (digits_decimal digit_model n small, decimal_nonempty n small, omega (arith, digits_value-decimal digit_model n small)))

pub parsed : {E : Type 0} (bs : List ℕ) (r : Result ℕ E) (o : Option ℕ) → get_or bs 0 0 ≢ 48 → get_or bs 0 0 ≢ 43 → ParsesUnsigned 64 10 bs r → o ≡ result_ok r → MatchOption o ((n : ℕ) → n < 2 ^ 64 → bs ≢ decimal n) (λ n. (n < 2 ^ 64) × (bs ≡ decimal n))
parsed bs r o z p h e = rw e (parsed_result bs r z p h)
