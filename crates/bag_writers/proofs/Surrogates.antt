-- Units of UTF-16, one after another, after a high surrogate that waits for its partner or not.
use Rattle.std.specs.Prelude.{◌≡◌, ◌↔◌, ◌<◌, ◌≤◌, ◌+◌, ◌-◌, ◌*◌, ◌%◌, ◌&&◌, ◌||◌, cond, not, nat_le, nat_lt, get_or, is_some, ℕ, Bool, true, false, List, [], ◌∷◌, length, take, drop, Option, None, Some}
use Rattle.std.specs.Char.Utf16.{has_unpaired_surrogate, is_high_surrogate, is_low_surrogate, lone_unit_char, surrogate_pair_char, utf16_chars}
use Rattle.std.specs.List.{list_any}
use Rattle.std.proofs.Common.{ap, arith, refl, subst, sym, true≢false, ◌∙◌, ⊎_elim}
use Rattle.std.proofs.lemmas.Bool.{and_parts, cases_Bool, false_from_ne_true, le-leb, leb-true, lt-ltb, ltb-false, ltb-true}
use Rattle.std.proofs.lemmas.List.{take_all}
use Rattle.x509_pkcs12.specs.Utf16.{IsUtf16, units_of}

-- each surrogate has its partner, where one before waits for it, or none does
abbrev pub is_paired : Bool → List ℕ → Bool
is_paired false us = not (has_unpaired_surrogate us)
is_paired true [] = false
is_paired true (v ∷ us) = is_low_surrogate v && not (has_unpaired_surrogate us)

abbrev is_surrogate : ℕ → Bool
is_surrogate u = nat_le 0xD800 u && nat_lt u 0xE000

both_true : (a b : Bool) → a ≡ true → b ≡ true → (a && b) ≡ true
both_true true b e f = f
both_true false b e f = e

high_range : (u : ℕ) → is_high_surrogate u ≡ true → (0xD800 ≤ u) × (u < 0xDC00)
high_range u t = let p = and_parts (nat_le 0xD800 u) (nat_lt u 0xDC00) t in (leb-true 0xD800 u p.0, ltb-true u 0xDC00 p.1)

low_range : (u : ℕ) → is_low_surrogate u ≡ true → (0xDC00 ≤ u) × (u < 0xE000)
low_range u t = let p = and_parts (nat_le 0xDC00 u) (nat_lt u 0xE000) t in (leb-true 0xDC00 u p.0, ltb-true u 0xE000 p.1)

surrogate_range : (u : ℕ) → 0xD800 ≤ u → u < 0xE000 → is_surrogate u ≡ true
surrogate_range u a b = both_true (nat_le 0xD800 u) (nat_lt u 0xE000) (le-leb 0xD800 u a) (lt-ltb u 0xE000 b)

high_is : (u : ℕ) → is_high_surrogate u ≡ true → is_surrogate u ≡ true
high_is u t = let r = high_range u t in surrogate_range u r.0 (omega (arith, r.1))

low_is : (u : ℕ) → is_low_surrogate u ≡ true → is_surrogate u ≡ true
low_is u t = let r = low_range u t in surrogate_range u (omega (arith, r.0)) r.1

pub low_not_high : (u : ℕ) → is_low_surrogate u ≡ true → is_high_surrogate u ≡ false
low_not_high u t = false_from_ne_true (is_high_surrogate u) (λ h. let a = high_range u h in let b = low_range u t in omega (arith, a.1, b.0))

high_not_low : (u : ℕ) → is_high_surrogate u ≡ true → is_low_surrogate u ≡ false
high_not_low u t = false_from_ne_true (is_low_surrogate u) (λ l. let a = high_range u t in let b = low_range u l in omega (arith, a.1, b.0))

-- a surrogate is a high one or a low one
neither_is : (u : ℕ) → is_high_surrogate u ≡ false → is_low_surrogate u ≡ false → is_surrogate u ≡ false
neither_is u h l = false_from_ne_true (is_surrogate u) (λ t.
    let p = and_parts (nat_le 0xD800 u) (nat_lt u 0xE000) t in
    ⊎_elim
    (λ below. true≢false (sym (both_true (nat_le 0xD800 u) (nat_lt u 0xDC00) p.0 below) ∙ h))
    (λ above. true≢false (sym (both_true (nat_le 0xDC00 u) (nat_lt u 0xE000) (le-leb 0xDC00 u (ltb-false u 0xDC00 above)) p.1) ∙ l))
    (cases_Bool (nat_lt u 0xDC00)))

lone_none : (u : ℕ) → is_surrogate u ≡ true → lone_unit_char u ≡ None
lone_none u t = ap (λ b. cond b None (Some u)) t

lone_some : (u : ℕ) → is_surrogate u ≡ false → lone_unit_char u ≡ Some u
lone_some u t = ap (λ b. cond b None (Some u)) t

abbrev is_none : Option ℕ → Bool
is_none o = not (is_some o)

-- a high surrogate, and what follows
after_high : (u : ℕ) (us : List ℕ) → is_high_surrogate u ≡ true → not (has_unpaired_surrogate (u ∷ us)) ≡ is_paired true us
unfolding utf16_chars
after_high u [] t = ap (λ o. not (is_none o || false)) (lone_none u (high_is u t))
after_high u (v ∷ us) t =
    ap (λ b. not (list_any is_none (cond (b && is_low_surrogate v) (Some (surrogate_pair_char u v) ∷ utf16_chars us) (lone_unit_char u ∷ utf16_chars (v ∷ us))))) t
    ∙ ⊎_elim
    (λ l. ap (λ b. not (list_any is_none (cond b (Some (surrogate_pair_char u v) ∷ utf16_chars us) (lone_unit_char u ∷ utf16_chars (v ∷ us))))) l ∙ ap (λ b. b && not (has_unpaired_surrogate us)) (sym l))
    (λ n. ap (λ b. not (list_any is_none (cond b (Some (surrogate_pair_char u v) ∷ utf16_chars us) (lone_unit_char u ∷ utf16_chars (v ∷ us))))) n
    ∙ ap (λ o. not (is_none o || has_unpaired_surrogate (v ∷ us))) (lone_none u (high_is u t)) ∙ ap (λ b. b && not (has_unpaired_surrogate us)) (sym n))
    (cases_Bool (is_low_surrogate v))

-- another unit, and what follows
after_other : (u : ℕ) (us : List ℕ) → is_high_surrogate u ≡ false → has_unpaired_surrogate (u ∷ us) ≡ (is_none (lone_unit_char u) || has_unpaired_surrogate us)
unfolding utf16_chars
after_other u [] n = refl
after_other u (v ∷ us) n = ap (λ b. list_any is_none (cond (b && is_low_surrogate v) (Some (surrogate_pair_char u v) ∷ utf16_chars us) (lone_unit_char u ∷ utf16_chars (v ∷ us)))) n

-- a unit that a waiting one wants, or that none wants
goes_on : (waits : Bool) (u : ℕ) (us : List ℕ) → is_low_surrogate u ≡ waits → is_paired waits (u ∷ us) ≡ is_paired (is_high_surrogate u) us
goes_on true u us l = ap (λ b. b && not (has_unpaired_surrogate us)) l ∙ ap (λ b. is_paired b us) (sym (low_not_high u l))
goes_on false u us l =
    ⊎_elim
    (λ h. after_high u us h ∙ ap (λ b. is_paired b us) (sym h))
    (λ n. ap (λ b. not b) (after_other u us n) ∙ ap (λ o. not (is_none o || has_unpaired_surrogate us)) (lone_some u (neither_is u n l)) ∙ ap (λ b. is_paired b us) (sym n))
    (cases_Bool (is_high_surrogate u))

-- any other unit breaks a pair
breaks : (waits : Bool) (u : ℕ) (us : List ℕ) → (is_low_surrogate u ≡ waits → ⊥) → is_paired waits (u ∷ us) ≡ false
breaks true u us n = ap (λ b. b && not (has_unpaired_surrogate us)) (false_from_ne_true (is_low_surrogate u) n)
breaks false u us n =
    ⊎_elim
    (λ l. ap (λ b. not b) (after_other u us (low_not_high u l)) ∙ ap (λ o. not (is_none o || has_unpaired_surrogate us)) (lone_none u (low_is u l)))
    (λ f. absurd (n f))
    (cases_Bool (is_low_surrogate u))

-- octets that are left, after a high surrogate that waits or not
abbrev pub IsRest : Bool → List ℕ → Type 0
IsRest waits rest = (length rest % 2 ≡ 0) × (is_paired waits (units_of rest) ≡ true)

unpaired : (b : Bool) → b ≡ false → not b ≡ true
unpaired b e = ap (λ x. not x) e

paired : (b : Bool) → not b ≡ true → b ≡ false
paired false e = refl
paired true e = sym e

pub at_start : (octets : List ℕ) → IsUtf16 octets ↔ IsRest false octets
at_start octets = (λ u. (u.0, unpaired (has_unpaired_surrogate (units_of octets)) u.1), λ r. (r.0, paired (has_unpaired_surrogate (units_of octets)) r.1))

even : (a b : ℕ) (after : List ℕ) → (length (a ∷ b ∷ after) % 2 ≡ 0) ↔ (length after % 2 ≡ 0)
even a b after = (λ e. omega (arith, e), λ e. omega (arith, e))

abbrev first_unit : List ℕ → ℕ
first_unit rest = get_or rest 0 0 * 256 + get_or rest 1 0

-- a unit is taken
pub taken : (octets : List ℕ) (waits high : Bool) (rest : List ℕ) (u : ℕ) → 2 ≤ length rest → u ≡ first_unit rest → is_low_surrogate u ≡ waits → high ≡ is_high_surrogate u → (IsUtf16 octets ↔ IsRest waits rest) → IsUtf16 octets ↔ IsRest high (take (length rest - 2) (drop 2 rest))
taken octets waits high [] u some is l h so_far = absurd (omega (arith, some))
taken octets waits high (a ∷ []) u some is l h so_far = absurd (omega (arith, some))
taken octets waits high (a ∷ b ∷ after) u some is l h so_far =
    let size : length (a ∷ b ∷ after) - 2 ≡ length after = omega arith in
    let same : is_paired waits ((a * 256 + b) ∷ units_of after) ≡ is_paired high (units_of after) =
    subst (λ v. is_paired waits (v ∷ units_of after) ≡ is_paired high (units_of after)) is (goes_on waits u (units_of after) l ∙ ap (λ x. is_paired x (units_of after)) (sym h)) in
    rw (size, take_all (length after) after (omega arith))
    (λ i. (let r = so_far.0 i in ((even a b after).0 r.0, sym same ∙ r.1)), λ r. so_far.1 ((even a b after).1 r.0, same ∙ r.1))

-- a unit breaks a pair
pub broken : (octets : List ℕ) (waits : Bool) (rest : List ℕ) (u : ℕ) → 2 ≤ length rest → u ≡ first_unit rest → (is_low_surrogate u ≡ waits → ⊥) → (IsUtf16 octets ↔ IsRest waits rest) → IsUtf16 octets → ⊥
broken octets waits [] u some is n so_far i = omega (arith, some)
broken octets waits (a ∷ []) u some is n so_far i = omega (arith, some)
broken octets waits (a ∷ b ∷ after) u some is n so_far i =
    let r = so_far.0 i in
    true≢false (sym r.1 ∙ subst (λ v. is_paired waits (v ∷ units_of after) ≡ false) is (breaks waits u (units_of after) n))

-- nothing is left
pub at_end : (octets : List ℕ) (waits : Bool) (rest : List ℕ) → length rest ≡ 0 → (IsUtf16 octets ↔ IsRest waits rest) → (not waits ≡ true) ↔ IsUtf16 octets
unfolding utf16_chars
at_end octets true [] e so_far = (λ t. absurd (true≢false (sym t)), λ i. absurd (true≢false (sym (so_far.0 i).1)))
at_end octets false [] e so_far = (λ t. so_far.1 (refl, refl), λ i. refl)
at_end octets waits (a ∷ rest) e so_far = absurd (omega (arith, e))

pub is_partner : (low : Bool) (u : ℕ) → low ≡ is_low_surrogate u → (low ≡ true) ↔ (is_low_surrogate u ≡ true)
is_partner low u e = (λ t. sym e ∙ t, λ t. e ∙ t)

pub needs_none : (low : Bool) (u : ℕ) → low ≡ is_low_surrogate u → (not low ≡ true) ↔ (is_low_surrogate u ≡ false)
needs_none true u e = (λ t. absurd (true≢false (sym t)), λ f. absurd (true≢false (e ∙ f)))
needs_none false u e = (λ t. sym e, λ f. refl)
