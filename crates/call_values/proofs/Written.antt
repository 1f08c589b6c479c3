-- Values of a list that are written to the front of an array, one after another.
use Rattle.std.proofs.Common.{◌≡◌, ℕ, ◌+◌, ◌≤◌, ◌<◌, List, [], ◌∷◌, ◌++◌, length, take, drop, set, get_or, map, ap, arith, sym, ◌∙◌, add-one, drop-cons}
use Rattle.std.proofs.lemmas.List.{append_assoc, length-map, length-take-le, map-append, set_at, take_all, take_more}

module _ {X Y : Type 0} (f : X → Y) (xs : List X) (old : List Y) where
  pub one_written : (i : ℕ) (d : X) (y : Y) (now : List Y) → i < length xs → length xs ≤ length old → y ≡ f (get_or xs i d) → now ≡ map f (take i xs) ++ drop i old → set now i y ≡ map f (take (i + 1) xs) ++ drop (i + 1) old
  one_written i d y now h l g n =
      let size : length (map f (take i xs)) ≡ i = length-map (take i xs) f ∙ length-take-le i xs (omega (arith, h)) in
      let tail : drop i old ≡ get_or old i y ∷ drop (i + 1) old = drop-cons old i y (omega (arith, h, l)) ∙ ap (λ j. get_or old i y ∷ drop j old) (sym (add-one i)) in
      let more : map f (take (i + 1) xs) ≡ map f (take i xs) ++ y ∷ [] = ap (map f) (take_more xs i d h) ∙ map-append f (take i xs) (get_or xs i d ∷ []) ∙ ap (λ z. map f (take i xs) ++ z ∷ []) (sym g) in
      ap (λ ys. set ys i y) (n ∙ ap (λ ys. map f (take i xs) ++ ys) tail)
      ∙ set_at (map f (take i xs)) (get_or old i y) (drop (i + 1) old) y i size
      ∙ sym (append_assoc (map f (take i xs)) (y ∷ []) (drop (i + 1) old))
      ∙ ap (λ ys. ys ++ drop (i + 1) old) (sym more)

  pub all_written : (i : ℕ) (now : List Y) → i ≤ length xs → length xs ≤ i → now ≡ map f (take i xs) ++ drop i old → now ≡ map f xs ++ drop (length xs) old
  all_written i now h l n =
      let e : i ≡ length xs = omega (arith, h, l) in
      n ∙ ap (λ j. map f (take j xs) ++ drop j old) e ∙ ap (λ ys. map f ys ++ drop (length xs) old) (take_all (length xs) xs (omega arith))
