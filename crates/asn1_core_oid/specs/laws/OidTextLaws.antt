-- A text and contents octets determine each other.
use Rattle.std.proofs.Common.{◌≡◌, ℕ, ◌+◌, ◌*◌, ◌^◌, ◌<◌, false, eqb, List, [], ◌∷◌, map, length, get_or, All, refl, sym, ap, ◌∙◌, arith}
use Rattle.std.specs.List.{slice_split}
use Rattle.std.specs.Fmt.{decimal}
use Rattle.std.specs.Str.Parse.{AllDigits, digits_value}
use Rattle.std.proofs.lemmas.Bool.{ne_eqb}
use Rattle.std.proofs.lemmas.Fmt.{decimal_injective, digits_decimal}
use Rattle.std.proofs.lemmas.List.Elements.{All-from_get_or, All-head, All-tail, All-cons}
use Rattle.std.proofs.lemmas.List.Splits.{slice_split_none, slice_split_at}
use Rattle.std.proofs.lemmas.Str.Parse.{IsNumeralModel, numerals_by_value, tells_digits, digit_at}
use Rattle.asn1_core_oid.specs.OidLaws.{same_groups}
use Rattle.asn1_core_oid.specs.OidText.{IsArcs, groups_of_arcs, arcs_text, IsTextOf, HasLongGroup}

pub digit_model : IsNumeralModel (AllDigits 10) (digits_value 10)
digit_model = numerals_by_value (AllDigits 10) tells_digits

no_dot : (n : ℕ) → n < 2 ^ 64 → All (λ b. eqb b 46 ≡ false) (decimal n)
no_dot n h = All-from_get_or (λ b. eqb b 46 ≡ false) (decimal n) 0 (λ i l. ne_eqb (get_or (decimal n) i 0) 46 (λ e. omega (arith, e, (digit_at (decimal n) i (digits_decimal digit_model n h) l).0)))

-- the parts between the dots
abbrev pub pieces : List ℕ → List (List ℕ)
pieces text = slice_split (λ b. eqb b 46) text

pub pieces-arcs_text : (arcs : List ℕ) → (arcs ≡ [] → ⊥) → All (λ n. n < 2 ^ 64) arcs → pieces (arcs_text arcs) ≡ map decimal arcs
pieces-arcs_text [] s h = absurd (s refl)
pieces-arcs_text (n ∷ []) s h = slice_split_none (λ b. eqb b 46) (decimal n) (no_dot n (All-head (λ n. n < 2 ^ 64) n [] h))
pieces-arcs_text (n ∷ m ∷ arcs) s h =
    let more = pieces-arcs_text (m ∷ arcs) (λ e. omega (arith, ap length e)) (All-tail (λ n. n < 2 ^ 64) n (m ∷ arcs) h) in
    slice_split_at (λ b. eqb b 46) (decimal n) 46 (arcs_text (m ∷ arcs)) (no_dot n (All-head (λ n. n < 2 ^ 64) n (m ∷ arcs) h)) refl ∙ ap (λ ps. decimal n ∷ ps) more

abbrev Fit : ℕ → Type 0
Fit n = n < 2 ^ 64

-- arcs whose groups fit 64 bits fit them too
pub arcs_fit : (arcs : List ℕ) → All (λ n. n < 2 ^ 64) (groups_of_arcs arcs) → All (λ n. n < 2 ^ 64) arcs
arcs_fit [] h = h
arcs_fit (first ∷ []) h = h
arcs_fit (first ∷ second ∷ further) h =
    let g : 40 * first + second < 2 ^ 64 = All-head Fit (40 * first + second) further h in
    All-cons Fit first (second ∷ further) (omega (arith, g)) (All-cons Fit second further (omega (arith, g)) (All-tail Fit (40 * first + second) further h))

pub some_arcs : (arcs : List ℕ) → IsArcs arcs → arcs ≡ [] → ⊥
some_arcs [] h e = h
some_arcs (first ∷ arcs) h e = omega (arith, ap length e)

same_numerals : (xs ys : List ℕ) → All (λ n. n < 2 ^ 64) xs → All (λ n. n < 2 ^ 64) ys → map decimal xs ≡ map decimal ys → xs ≡ ys
same_numerals [] [] h k e = refl
same_numerals [] (b ∷ ys) h k e = absurd (omega (arith, ap length e))
same_numerals (a ∷ xs) [] h k e = absurd (omega (arith, ap length e))
same_numerals (a ∷ xs) (b ∷ ys) h k e =
    let d : decimal a ≡ decimal b = cc in
    let t : map decimal xs ≡ map decimal ys = cc in
    let p : a ≡ b = decimal_injective a b (All-head Fit a xs h) (All-head Fit b ys k) d in
    let q : xs ≡ ys = same_numerals xs ys (All-tail Fit a xs h) (All-tail Fit b ys k) t in
    cc

pub same_arcs : (xs ys : List ℕ) → (xs ≡ [] → ⊥) → (ys ≡ [] → ⊥) → All (λ n. n < 2 ^ 64) xs → All (λ n. n < 2 ^ 64) ys → arcs_text xs ≡ arcs_text ys → xs ≡ ys
same_arcs xs ys s t h k e = same_numerals xs ys h k (sym (pieces-arcs_text xs s h) ∙ ap pieces e ∙ pieces-arcs_text ys t k)

-- octets with a group that doesn't fit 64 bits have no text
pub no_text : {text octets : List ℕ} → IsTextOf text octets → HasLongGroup octets → ⊥
no_text p q =
    let e = same_groups (groups_of_arcs p.arcs) q.groups (sym p.octets_are ∙ q.spelled) in
    let w = q.long in
    let h : get_or (groups_of_arcs p.arcs) w.0 w.1 < 2 ^ 64 = p.fits w.0 w.1 (omega (arith, w.2, ap length e)) in
    omega (arith, h, w.3, w.4, ap (λ gs. get_or gs w.0 w.1) e)
