-- Elements of which each is told apart from the one before it.
use Rattle.std.specs.Prelude.{◌≡◌, cond, Bool, List, [], ◌∷◌, map}
use Rattle.std.specs.List.{dedup, dedup_from}
use Rattle.std.proofs.Common.{ap, refl, sym, ◌∙◌, ⊎_elim}
use Rattle.std.proofs.lemmas.Bool.{cases_Bool}

module _ {X Y : Type 0} (f : X → Y) (E : X → X → Bool) (G : Y → Y → Bool) (same : (x y : X) → E x y ≡ G (f x) (f y)) where
  from : (k : X) (xs : List X) → map f (dedup_from E k xs) ≡ dedup_from G (f k) (map f xs)
  from k [] = refl
  from k (x ∷ xs) =
      ⊎_elim
      (λ t. ap (λ b. map f (cond b (dedup_from E k xs) (k ∷ dedup_from E x xs))) t ∙ from k xs ∙ ap (λ b. cond b (dedup_from G (f k) (map f xs)) (f k ∷ dedup_from G (f x) (map f xs))) (sym (sym (same x k) ∙ t)))
      (λ n. ap (λ b. map f (cond b (dedup_from E k xs) (k ∷ dedup_from E x xs))) n ∙ ap (λ l. f k ∷ l) (from x xs) ∙ ap (λ b. cond b (dedup_from G (f k) (map f xs)) (f k ∷ dedup_from G (f x) (map f xs))) (sym (sym (same x k) ∙ n)))
      (cases_Bool (E x k))

  pub map_dedup : (xs : List X) → map f (dedup E xs) ≡ dedup G (map f xs)
  map_dedup [] = refl
  map_dedup (x ∷ xs) = from x xs
