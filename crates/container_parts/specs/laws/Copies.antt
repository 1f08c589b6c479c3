-- Laws of `Copies.antt`.
use Rattle.std.specs.Prelude.{◌≡◌, ℕ, zero, suc, List, [], ◌∷◌, map, slice_get}
use Rattle.std.proofs.Common.{refl}
use Rattle.asn1_core.specs.Der.{option_value}

-- an item by its index, as its value
pub get_value : {A B : Type 0} (f : A → B) (xs : List A) (i : ℕ) → slice_get (map f xs) i ≡ option_value f (slice_get xs i)
get_value f [] i = refl
get_value f (x ∷ xs) zero = refl
get_value f (x ∷ xs) (suc i) = get_value f xs i
