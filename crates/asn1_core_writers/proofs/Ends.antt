-- The end of an input that was taken off, and the longest end of two lists.
use Rattle.std.proofs.Common.{Bor, suc, ◌≡◌, ◌≢◌, ℕ, true, false, ◌+◌, ◌-◌, ◌<◌, ◌≤◌, List, [], ◌∷◌, ◌++◌, length, take, drop, get_or, Option, None, Some, MatchOption, sym, ap, subst, ◌∙◌, inl, inr, arith, append-nil, length-append}
use Rattle.std.proofs.Math.Seq.{drop-length, drop-cons, get_or-append_right}
use Rattle.std.proofs.Math.ListN.{drop_of_length-le}
use Rattle.std.proofs.lemmas.Bool.{cases_lt}
use Rattle.std.proofs.lemmas.Bool.Decides.{Decides-eqb}
use Rattle.std.proofs.lemmas.List.{append_cancel_right, get_or-drop, length-drop, nil_from_length, take-append-drop}
use Rattle.std.proofs.lemmas.Slice.Eq.{strip_suffix_is}
use Rattle.std.specs.Prelude.{◌==◌}
use lib.Pointwise.{pointwise}
use Rattle.asn1_core_writers.specs.Comparing.{IsBefore, IsLongestEnd, no_end}
use Rattle.asn1_core_writers.specs.laws.Comparing.{longest_more}

-- what is before an end that was taken off
pub before_end : (s t front : List ℕ) → s ≡ front ++ t → IsBefore t (Some s) (Some front)
before_end s t front split b = (
  λ e. (let h : front ≡ b = cc in ap Some (split ∙ ap (λ l. l ++ t) h)),
  λ e. (let h : s ≡ b ++ t = cc in ap Some (append_cancel_right front b t (sym split ∙ h))),
)

pub before_none : (s t : List ℕ) → ((front : List ℕ) → s ≢ front ++ t) → IsBefore t (Some s) None
before_none s t none b = (λ e. cc, λ e. (let h : s ≡ b ++ t = cc in absurd (none b h)))

-- an end that was taken off is the longest
pub taken_off : (s t front : List ℕ) → s ≡ front ++ t → IsLongestEnd t s (length front)
taken_off s t front split = subst (λ l. IsLongestEnd t l (length front)) (sym split) (longest_more [] t front (length front) (no_end front))

-- what `strip_suffix` answers
pub stripped : (s t : List ℕ) (r : Option (Bor (List ℕ))) → MatchOption r (pointwise ◌==◌ (drop (length s - length t) s) t ≡ false) (λ x. (pointwise ◌==◌ (drop (length s - length t) s) t ≡ true) × (x.now ≡ take (length s - length t) s) × (length x.now + length t ≡ length s)) → MatchOption r ((front : List ℕ) → s ≢ front ++ t) (λ x. s ≡ x.now ++ t)
stripped s t r m = strip_suffix_is Decides-eqb s t r m

-- the last byte apart
last_distinct : (s : List ℕ) → 1 ≤ length s → s ≡ take (length s - 1) s ++ get_or s (length s - 1) 0 ∷ []
last_distinct s some =
    let n = length s - 1 in
    let rest : drop n s ≡ get_or s n 0 ∷ [] = drop-cons s n 0 (omega (arith, some)) ∙ ap (λ l. get_or s n 0 ∷ l) (drop_of_length-le s {i = suc n} (omega (arith, some))) in
    sym (take-append-drop n s) ∙ ap (λ l. take n s ++ l) rest

-- a last byte that both have is of the longest end
pub same_last : (s b : List ℕ) (n : ℕ) → 1 ≤ length s → 1 ≤ length b → get_or b (length b - 1) 0 ≡ get_or s (length s - 1) 0 → IsLongestEnd (take (length s - 1) s) (take (length b - 1) b) n → IsLongestEnd s b n
same_last s b n i j e h =
    let x = get_or s (length s - 1) 0 in
    let t : take (length b - 1) b ++ x ∷ [] ≡ b = sym (last_distinct b j ∙ ap (λ y. take (length b - 1) b ++ y ∷ []) e) in
    subst (λ l. IsLongestEnd l b n) (sym (last_distinct s i)) (subst (λ l. IsLongestEnd (take (length s - 1) s ++ x ∷ []) l n) t (longest_more _ (x ∷ []) _ n h))

-- where the last bytes differ it has none
pub other_last : (s b : List ℕ) → 1 ≤ length s → 1 ≤ length b → (get_or b (length b - 1) 0 ≡ get_or s (length s - 1) 0 → ⊥) → IsLongestEnd s b (length b)
other_last s b i j differ = record {
  front = s;
  ends = sym (ap (λ l. s ++ l) (drop-length b) ∙ append-nil s);
  inside = omega arith;
  longest = λ m other e. elim (cases_lt m (length b)) [
    | inl within ↦
        let n = length s - 1 in
        let long = ap length e ∙ length-append other (drop m b) in
        let cut = length-drop m b in
        let first = get_or-append_right other (drop m b) n 0 (omega (arith, long, cut, within)) ∙ get_or-drop m b (n - length other) 0 in
        let at : m + (n - length other) ≡ length b - 1 = omega (arith, long, cut, within) in
        absurd (differ (sym (ap (λ l. get_or l n 0) e ∙ first ∙ ap (λ k. get_or b k 0) at)))
    | inr past ↦ past
  ];
}

-- no bytes are an end of any
pub whole_end : (s b : List ℕ) → length b < 1 → IsLongestEnd s b 0
whole_end s b none = record {
  front = s;
  ends = sym (ap (λ l. s ++ l) (nil_from_length b (omega (arith, none))) ∙ append-nil s);
  inside = omega arith;
  longest = λ m other e. omega arith;
}
