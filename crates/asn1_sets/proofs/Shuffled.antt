-- A list whose images under a function are in another order.
use Rattle.std.specs.Prelude.{◌≡◌, ◌<◌, ℕ, List, [], ◌∷◌, length, map, slice_index_or, slice_set}
use Rattle.std.specs.List.{swap}
use Rattle.std.specs.List.Sorted.{IsPermutation}
use Rattle.std.proofs.Common.{ap, arith, refl, sym, ◌∙◌}
use Rattle.std.proofs.lemmas.List.{get_or-map, length-map, map-set}
use Rattle.std.proofs.lemmas.List.Sorted.{IsPermutation-keeps, IsPermutation-refl, IsPermutation-swap, IsPermutation-trans}

module _ {P X : Type 0} (f : P → X) where
  map_swap : (ps : List P) (i j : ℕ) → i < length ps → j < length ps → map f (swap ps i j) ≡ swap (map f ps) i j
  map_swap [] i j p q = absurd (omega (arith, p))
  map_swap (d ∷ ps) i j p q =
      let xs = d ∷ ps in
      map-set f (slice_set xs i (slice_index_or xs j d)) j (slice_index_or xs i d)
      ∙ ap (λ l. slice_set l j (f (slice_index_or xs i d))) (map-set f xs i (slice_index_or xs j d))
      ∙ ap (λ y. slice_set (slice_set (map f xs) i y) j (f (slice_index_or xs i d))) (sym (get_or-map f xs j d (f d) q))
      ∙ ap (λ y. slice_set (slice_set (map f xs) i (slice_index_or (map f xs) j (f d))) j y) (sym (get_or-map f xs i d (f d) p))

  -- such an order of the images is one of the list itself
  pub record IsOrderOf (ps : List P) (ys : List X) : Type 0 where
    pub order : List P
    pub permutation : IsPermutation ps order
    pub images : map f order ≡ ys

  swapped : (ps : List P) (l : List X) (i j : ℕ) → i < length l → j < length l → IsOrderOf ps l → IsOrderOf ps (swap l i j)
  swapped ps l i j p q h =
      let long : length h.order ≡ length l = sym (length-map h.order f) ∙ ap length h.images in
      let a : i < length h.order = omega (arith, long, p) in
      let b : j < length h.order = omega (arith, long, q) in
      record {
        order = swap h.order i j;
        permutation = IsPermutation-trans ps h.order (swap h.order i j) h.permutation (IsPermutation-swap h.order (swap h.order i j) i j a b refl);
        images = map_swap h.order i j a b ∙ ap (λ z. swap z i j) h.images;
      }

  pub order_of : (ps : List P) (ys : List X) → IsPermutation (map f ps) ys → IsOrderOf ps ys
  order_of ps ys h =
      IsPermutation-keeps (map f ps) (IsOrderOf ps) (record { order = ps; permutation = IsPermutation-refl ps; images = refl }) (λ l i j p q r. swapped ps l i j p q r) ys h
