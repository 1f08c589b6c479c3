-- The first item of a list that meets a test, and its index.
use Rattle.std.specs.Prelude.{◌≡◌, ℕ, suc, Bool, cond, List, [], ◌∷◌, Option, None, Some}
use Rattle.std.specs.List.{find}

-- the index of the first one, counted from n on
abbrev pub index_from : {V : Type 0} → ℕ → (V → Bool) → List V → Option ℕ
index_from n test [] = None
index_from n test (x ∷ xs) = cond (test x) (Some n) (index_from (suc n) test xs)

-- x is the first one, and i its index
abbrev pub IsFirstAt : {V : Type 0} → (V → Bool) → List V → ℕ → V → Type 0
IsFirstAt test xs i x = (index_from 0 test xs ≡ Some i) × (find test xs ≡ Some x)
