-- Lists that have an item.
use Rattle.std.specs.Prelude.{◌≢◌, ℕ, ◌<◌, List, [], ◌∷◌, length}
use Rattle.std.proofs.Common.{arith}

pub has_item : {X : Type 0} (xs : List X) (i : ℕ) → i < length xs → xs ≢ []
has_item [] i h e = omega (arith, h)
has_item (x ∷ xs) i h e = cc
