-- What only one element of a list meets is found alike in another order.
use Rattle.std.specs.Prelude.{◌≡◌, ◌≤◌, zero, suc, Bool, true, List, [], ◌∷◌, length}
use Rattle.std.specs.List.{Contains, filter}
use Rattle.std.specs.List.Sorted.{IsPermutation}
use Rattle.std.proofs.Common.{ap, arith, refl, subst, sym, ◌∙◌, ⊎_elim}
use Rattle.std.proofs.lemmas.List.Elements.{All-contains, All-contains_itself, All-filter, Contains-append_cases, Contains-append_left, Contains-append_right, filter-append, filter_passes}
use Rattle.std.proofs.lemmas.List.Sorted.{Contains-permutation, IsPermutation-sym, sum_by-IsPermutation}
use Rattle.std.proofs.lemmas.List.Sums.{length-filter}

pub the_one : {X : Type 0} (y x : X) → Contains (y ∷ []) x → y ≡ x
the_one y x (zero, l, e) = e
the_one y x (suc k, l, e) = absurd (omega (arith, l))

-- an element of a filtered list
module _ {X : Type 0} (p : X → Bool) where
  passes : (xs : List X) (x : X) → Contains (filter p xs) x → p x ≡ true
  passes xs x c = All-contains (λ y. p y ≡ true) (filter p xs) x (filter_passes p xs) c

  was_there : (xs : List X) (x : X) → Contains (filter p xs) x → Contains xs x
  was_there xs x c = All-contains (Contains xs) (filter p xs) x (All-filter p (Contains xs) xs (All-contains_itself xs)) c

  stays_alone : (y x : X) → Contains (y ∷ []) x → p x ≡ true → Contains (filter p (y ∷ [])) x
  stays_alone y x c t = let e = the_one y x c in subst (λ z. Contains (filter p (z ∷ [])) x) (sym e) (rw (t) (0, (omega arith), refl))

  pub stays : (xs : List X) (x : X) → Contains xs x → p x ≡ true → Contains (filter p xs) x
  stays [] x c t = absurd (omega (arith, c.1))
  stays (y ∷ ys) x c t =
      subst (λ zs. Contains zs x) (sym (filter-append p (y ∷ []) ys))
      (⊎_elim
      (λ here. Contains-append_left (filter p (y ∷ [])) (filter p ys) x (stays_alone y x here t))
      (λ later. Contains-append_right (filter p (y ∷ [])) (filter p ys) x (stays ys x later t))
      (Contains-append_cases (y ∷ []) ys x c))

  only_one : (us ws : List X) → length ws ≡ length us → length us ≤ 1 → ((x : X) → Contains ws x → Contains us x) → ws ≡ us
  only_one [] [] e l h = refl
  only_one [] (w ∷ ws) e l h = absurd (omega (arith, e))
  only_one (u ∷ us) [] e l h = absurd (omega (arith, e))
  only_one (u ∷ []) (w ∷ []) e l h = ap (λ x. x ∷ []) (sym (the_one u w (h w (0, (omega arith), refl))))
  only_one (u ∷ v ∷ us) (w ∷ ws) e l h = absurd (omega (arith, l))
  only_one (u ∷ []) (w ∷ v ∷ ws) e l h = absurd (omega (arith, e))

  pub same_filter : (xs ys : List X) → IsPermutation xs ys → length (filter p xs) ≤ 1 → filter p ys ≡ filter p xs
  same_filter xs ys h l =
      let e : length (filter p ys) ≡ length (filter p xs) = length-filter p ys ∙ sum_by-IsPermutation _ xs ys h ∙ sym (length-filter p xs) in
      only_one (filter p xs) (filter p ys) e l (λ x c. stays xs x (Contains-permutation ys xs x (IsPermutation-sym xs ys h) (was_there ys x c)) (passes ys x c))
