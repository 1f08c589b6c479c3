-- What the octets of a number are.
use Rattle.std.proofs.Common.{◌≡◌, ℕ, ◌+◌, ◌^◌, ◌<◌, ◌≤◌, List, [], length, get_or, sym, ap, subst, ◌∙◌, arith, ⊎_elim}
use Rattle.std.specs.Int.Digits.{number_from_digits}
use Rattle.asn1_core_element.specs.laws.Digits.{all_bytes}
use Rattle.asn1_core_element.specs.Numbers.{integer_octets, IsNumeral}
use Rattle.asn1_core_element.specs.laws.NumberLaws.{number_integer_octets, is_numeral, has_number, few_octets}

-- what the octets of a number are
pub octets_are : (c : List ℕ) (n : ℕ) → c ≡ integer_octets n → IsNumeral (n + 1) c
octets_are c n e = subst (IsNumeral (n + 1)) (sym e) (is_numeral (n + 1) n (omega arith))

pub number_is : (c : List ℕ) (n : ℕ) → c ≡ integer_octets n → number_from_digits 256 c ≡ n
number_is c n e = ap (number_from_digits 256) e ∙ number_integer_octets n

pub few_are : (c : List ℕ) (n limit : ℕ) → n ≤ limit → limit < 2 ^ 32 → c ≡ integer_octets n → length c ≤ 5
few_are c n limit l h e = omega (arith, ap length e, few_octets n (omega (arith, l, h)))

pub number_held : (c : List ℕ) (n limit : ℕ) → ((i : ℕ) → get_or c i 0 < 256) → 1 ≤ length c → get_or c 0 0 < 128 → (get_or c 0 0 ≡ 0 → 2 ≤ length c → 128 ≤ get_or c 1 0) → n ≡ number_from_digits 256 c → n ≤ limit → (n ≤ limit) × (c ≡ integer_octets n)
number_held c n limit b s p f e l =
    let i : IsNumeral (n + 1) c = record { octets = all_bytes c b; some = s; not_negative = p; fewest = f; below = omega (arith, e) } in
    let r = has_number (n + 1) c i in
    let m : r.0 ≡ n = sym (number_is c r.0 r.1) ∙ sym e in
    (l, r.1 ∙ ap integer_octets m)
