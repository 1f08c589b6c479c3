-- What is kept of a list of values, as a filter of what they are.
use Rattle.std.proofs.Common.{◌≡◌, Bool, true, false, cond, List, [], ◌∷◌, map, refl, ap, ◌∙◌}
use Rattle.std.specs.List.{filter}

module _ {X Y : Type 0} (f : X → Y) where
  kept_or : (b : Bool) (x : X) (xs : List X) → map f (cond b (x ∷ xs) xs) ≡ cond b (f x ∷ map f xs) (map f xs)
  kept_or true x xs = refl
  kept_or false x xs = refl

  pub map_kept : (p : Y → Bool) (xs : List X) → map f (filter (λ x. p (f x)) xs) ≡ filter p (map f xs)
  map_kept p [] = refl
  map_kept p (x ∷ xs) = kept_or (p (f x)) x (filter (λ y. p (f y)) xs) ∙ ap (λ ys. cond (p (f x)) (f x ∷ ys) ys) (map_kept p xs)
