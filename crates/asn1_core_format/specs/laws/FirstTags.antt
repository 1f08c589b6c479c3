-- Laws of `FirstTags.antt`.
use Rattle.std.specs.Prelude.{◌≡◌, ℕ, Bool, true, false, not}
use Rattle.std.proofs.Common.{refl, inl, inr, sym, subst}
use Rattle.std.proofs.lemmas.Bool.{eq-eqb, eqb-true, true≢false, and_parts, or_cases, or_left, or_right, not_from_false, false_from_ne_true}
use Rattle.asn1_core_format.specs.FirstTags.{IsIn, Tags, both, but, every, is_distinct, is_in, is_inside, is_none, no_common, none, one}

is_not : (b : Bool) → not b ≡ true → b ≡ true → ⊥
is_not true e h = true≢false (sym e)
is_not false e h = true≢false (sym h)

pub may : (a : Tags) (t : ℕ) → (IsIn a t → is_in a true t ≡ true) × (is_in a false t ≡ true → IsIn a t)
may none t = (λ h. absurd h, λ e. true≢false (sym e))
may (one u) t = (eq-eqb t u, eqb-true t u)
may (both a b) t = (
  λ h. elim h [ inl x ↦ or_left _ _ ((may a t).0 x) | inr y ↦ or_right _ _ ((may b t).0 y) ],
  λ e. elim (or_cases _ _ e) [ inl x ↦ inl ((may a t).1 x) | inr y ↦ inr ((may b t).1 y) ],
)
may (but a) t = (
  λ h. not_from_false _ (false_from_ne_true _ (λ e. h ((may a t).1 e))),
  λ e h. is_not _ e ((may a t).0 h),
)
may every t = (λ h. refl, λ e. absurd (true≢false (sym e)))

none_is : (a : Tags) → is_none a ≡ true → (t : ℕ) → IsIn a t → ⊥
none_is none e t h = h
none_is (one u) e t h = true≢false (sym e)
none_is (both a b) e t h = let p = and_parts _ _ e in elim h [ inl x ↦ none_is a p.0 t x | inr y ↦ none_is b p.1 t y ]
none_is (but a) e t h = true≢false (sym e)
none_is every e t h = true≢false (sym e)

inside_is : (a b : Tags) → is_inside a b ≡ true → (t : ℕ) → IsIn a t → IsIn b t
inside_is none b e t h = absurd h
inside_is (one u) b e t h = subst (IsIn b) (sym h) ((may b u).1 e)
inside_is (both a c) b e t h = let p = and_parts _ _ e in elim h [ inl x ↦ inside_is a b p.0 t x | inr y ↦ inside_is c b p.1 t y ]
inside_is (but a) b e t h = absurd (true≢false (sym e))
inside_is every b e t h = absurd (true≢false (sym e))

distinct_is : (a b : Tags) → is_distinct a b ≡ true → (t : ℕ) → IsIn a t → IsIn b t → ⊥
distinct_is none b e t h i = h
distinct_is (one u) b e t h i = is_not _ e ((may b u).0 (subst (IsIn b) h i))
distinct_is (both a c) b e t h i = let p = and_parts _ _ e in elim h [ inl x ↦ distinct_is a b p.0 t x i | inr y ↦ distinct_is c b p.1 t y i ]
distinct_is (but a) b e t h i = h (inside_is b a e t i)
distinct_is every b e t h i = none_is b e t i

pub no_common_is : (a b : Tags) → no_common a b ≡ true → (t : ℕ) → IsIn a t → IsIn b t → ⊥
no_common_is a b e t h i = elim (or_cases _ _ e) [ inl n ↦ none_is b n t i | inr d ↦ distinct_is a b d t h i ]
