-- A list that ascends by what a function gives of its elements.
use Rattle.std.specs.Prelude.{◌<◌, ◌+◌, Bool, List, [], ◌∷◌, length, map, slice_index_or}
use Rattle.std.specs.List.Sorted.{IsSortedBy}
use Rattle.std.proofs.Common.{ap, arith, ◌∙◌}
use Rattle.std.proofs.lemmas.List.{get_or-map, length-map}

pub sorted_map : {X Y : Type 0} (lt : Y → Y → Bool) (f : X → Y) (xs : List X) → IsSortedBy (λ x y. lt (f x) (f y)) xs → IsSortedBy lt (map f xs)
sorted_map lt f [] s k d low high = absurd (omega (arith, high))
sorted_map lt f (x ∷ xs) s k d low high =
    let below : k + 1 < length (x ∷ xs) = omega (arith, high, length-map (x ∷ xs) f) in
    let here : k < length (x ∷ xs) = omega (arith, below) in
    ap (λ y. lt y (slice_index_or (map f (x ∷ xs)) k d)) (get_or-map f (x ∷ xs) (k + 1) x d below)
    ∙ ap (λ y. lt (f (slice_index_or (x ∷ xs) (k + 1) x)) y) (get_or-map f (x ∷ xs) k x d here)
    ∙ s k x low below
