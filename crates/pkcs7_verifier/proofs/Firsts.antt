-- The first of some items of which something is true, along a list.
use Rattle.std.proofs.Common.{◌≡◌, ℕ, ◌+◌, ◌<◌, ◌↔◌, IsTrue, Bool, true, false, cond, List, ◌∷◌, map, drop, length, get_or, sym, ap, subst, ◌∙◌, add-one, drop-cons, refl, inl, inr, Option, Some, true≢false}
use Rattle.std.specs.List.{find}
use Rattle.pkcs7_verifier.specs.Matches.{IsFirst}

module _ {X V : Type 0} (f : X → V) (xs : List X) (i : ℕ) (x : X) (h : i < length xs) (e : x ≡ get_or xs i x) where
  -- the values from an item on
  pub from_here : map f (drop i xs) ≡ f x ∷ map f (drop (i + 1) xs)
  from_here = ap (map f) (drop-cons xs i x h ∙ ap (λ j. get_or xs i x ∷ drop j xs) (sym (add-one i)) ∙ ap (λ y. y ∷ drop (i + 1) xs) (sym e))

  module _ (test : V → Bool) (before : find test (map f (drop i xs)) ≡ find test (map f xs)) where
    step : find test (map f (drop i xs)) ≡ cond (test (f x)) (Some (f x)) (find test (map f (drop (i + 1) xs)))
    step = ap (find test) from_here

    pub found : true ≡ test (f x) → Some (f x) ≡ find test (map f xs)
    found t = sym (ap (λ b. cond b (Some (f x)) (find test (map f (drop (i + 1) xs)))) (sym t)) ∙ sym step ∙ before

    pub passed : false ≡ test (f x) → find test (map f (drop (i + 1) xs)) ≡ find test (map f xs)
    passed t = sym (ap (λ b. cond b (Some (f x)) (find test (map f (drop (i + 1) xs)))) (sym t)) ∙ sym step ∙ before

  module _ (P : V → Type 0) (before : (r : Option V) → IsFirst P (map f (drop i xs)) r → IsFirst P (map f xs) r) where
    pub is_first : (IsTrue true ↔ P (f x)) → IsFirst P (map f xs) (Some (f x))
    is_first p = before (Some (f x)) (subst (λ vs. IsFirst P vs (Some (f x))) (sym from_here) (inl (p.0 refl, refl)))

    -- the same, by a copy of the item and by a part of it
    pub is_first_at : (copy item : V) → copy ≡ item → item ≡ f x → (IsTrue true ↔ P copy) → IsFirst P (map f xs) (Some item)
    is_first_at copy item d g p = subst (λ v. IsFirst P (map f xs) (Some v)) (sym g) (is_first (λ t. subst P (d ∙ g) (p.0 t), λ q. p.1 (subst P (sym (d ∙ g)) q)))

    pub is_later : (IsTrue false ↔ P (f x)) → (r : Option V) → IsFirst P (map f (drop (i + 1) xs)) r → IsFirst P (map f xs) r
    is_later p r l = before r (subst (λ vs. IsFirst P vs r) (sym from_here) (inr (λ q. true≢false (sym (p.1 q)), l)))
