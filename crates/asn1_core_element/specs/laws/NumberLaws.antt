-- Numbers below a bound and the contents that hold them are one to one.
use Rattle.std.proofs.Common.{◌≡◌, ℕ, zero, suc, ◌+◌, ◌^◌, ◌<◌, ◌≤◌, List, [], ◌∷◌, length, get_or, refl, sym, ap, subst, ◌∙◌, arith, ⊎_elim}
use Rattle.std.proofs.lemmas.Bool.{cases_lt, lt-ltb, le-ltb}
use Rattle.std.specs.Int.Digits.{digits_of, number_from_digits, AllBelowBase}
use Rattle.std.proofs.lemmas.Int.Digits.{number_digits_of, first_digits_of, all_below_base_digits_of, length-digits_of-le}
use Rattle.asn1_core_element.specs.laws.Digits.{digits_of_number}
use Rattle.asn1_core_element.specs.Numbers.{with_sign, integer_octets, IsNumeral}

pub with_sign_low : (d : ℕ) (ds : List ℕ) → d < 128 → with_sign (d ∷ ds) ≡ d ∷ ds
with_sign_low d ds h = rw (lt-ltb d 128 h) refl

pub with_sign_high : (d : ℕ) (ds : List ℕ) → 128 ≤ d → with_sign (d ∷ ds) ≡ 0 ∷ d ∷ ds
with_sign_high d ds h = rw (le-ltb d 128 h) refl

-- a leading 0 octet changes no number
number_with_sign : (ds : List ℕ) → number_from_digits 256 (with_sign ds) ≡ number_from_digits 256 ds
number_with_sign [] = refl
number_with_sign (d ∷ ds) =
    ⊎_elim (λ (h : d < 128). ap (number_from_digits 256) (with_sign_low d ds h)) (λ (h : 128 ≤ d). ap (number_from_digits 256) (with_sign_high d ds h)) (cases_lt d 128)

pub number_integer_octets : (v : ℕ) → number_from_digits 256 (integer_octets v) ≡ v
number_integer_octets v = number_with_sign (digits_of 256 v) ∙ number_digits_of 256 v (omega arith)

pub one_number : (v w : ℕ) → integer_octets v ≡ integer_octets w → v ≡ w
one_number v w e = sym (number_integer_octets v) ∙ ap (number_from_digits 256) e ∙ number_integer_octets w

-- digits of which the first isn't 0, with a sign
numeral_with_sign : (bound : ℕ) (ds : List ℕ) → AllBelowBase 256 ds → (0 < length ds → 0 < get_or ds 0 0) → number_from_digits 256 ds < bound → IsNumeral bound (with_sign ds)
numeral_with_sign bound [] a f l = record {
  octets = (omega arith, tt);
  some = omega arith;
  not_negative = omega arith;
  fewest = λ e m. absurd (omega (arith, m));
  below = l;
}
numeral_with_sign bound (d ∷ ds) a f l =
    ⊎_elim
    (λ (h : d < 128). subst (IsNumeral bound) (sym (with_sign_low d ds h)) (record {
      octets = a;
      some = omega arith;
      not_negative = h;
      fewest = λ e m. absurd (omega (arith, e, f (omega arith)));
      below = l;
    }))
    (λ (h : 128 ≤ d). subst (IsNumeral bound) (sym (with_sign_high d ds h)) (record {
      octets = (omega arith, a);
      some = omega arith;
      not_negative = omega arith;
      fewest = λ e m. h;
      below = l;
    }))
    (cases_lt d 128)

first_is_some : (v : ℕ) → 0 < length (digits_of 256 v) → 0 < get_or (digits_of 256 v) 0 0
first_is_some zero l = absurd (omega (arith, l))
first_is_some (suc v) l = first_digits_of 256 (suc v) (omega arith) (omega arith)

pub is_numeral : (bound v : ℕ) → v < bound → IsNumeral bound (integer_octets v)
is_numeral bound v h =
    numeral_with_sign bound (digits_of 256 v) (all_below_base_digits_of 256 v (omega arith)) (first_is_some v) (omega (arith, number_digits_of 256 v (omega arith)))

-- digits of which the first isn't 0 are those of their number
signed_digits : (ds : List ℕ) → AllBelowBase 256 ds → 0 < get_or ds 0 0 → with_sign ds ≡ integer_octets (number_from_digits 256 ds)
signed_digits ds a p = ap with_sign (sym (digits_of_number ds a p))

spelled : (c : List ℕ) → AllBelowBase 256 c → 1 ≤ length c → get_or c 0 0 < 128 → (get_or c 0 0 ≡ 0 → 2 ≤ length c → 128 ≤ get_or c 1 0) → c ≡ integer_octets (number_from_digits 256 c)
spelled [] a s n f = absurd (omega (arith, s))
spelled (zero ∷ []) a s n f = refl
spelled (zero ∷ e ∷ es) a s n f =
    let h : 128 ≤ e = f refl (omega arith) in
    let p : 0 < get_or (e ∷ es) 0 0 = omega (arith, h) in
    sym (with_sign_high e es h) ∙ signed_digits (e ∷ es) a.1 p
spelled (suc d ∷ ds) a s n f = sym (with_sign_low (suc d) ds n) ∙ signed_digits (suc d ∷ ds) a (omega arith)

pub has_number : (bound : ℕ) (c : List ℕ) → IsNumeral bound c → (v : ℕ) × (c ≡ integer_octets v) × (v < bound)
has_number bound c i = (number_from_digits 256 c, spelled c i.octets i.some i.not_negative i.fewest, i.below)

pub some_octets : (v : ℕ) → 1 ≤ length (integer_octets v)
some_octets v = (is_numeral (v + 1) v (omega arith)).some

length_with_sign : (ds : List ℕ) → length (with_sign ds) ≤ length ds + 1
length_with_sign [] = omega arith
length_with_sign (d ∷ ds) =
    ⊎_elim (λ (h : d < 128). omega (arith, ap length (with_sign_low d ds h))) (λ (h : 128 ≤ d). omega (arith, ap length (with_sign_high d ds h))) (cases_lt d 128)

pub few_octets : (v : ℕ) → v < 2 ^ 32 → length (integer_octets v) ≤ 5
few_octets v h =
    let u : 2 ^ 32 ≡ 256 ^ 4 = refl in
    omega (arith, length_with_sign (digits_of 256 v), length-digits_of-le 256 4 v (omega arith) (omega (arith, h, u)))
