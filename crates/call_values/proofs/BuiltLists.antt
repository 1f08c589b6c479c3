-- Lists of what rows give.
use Rattle.std.specs.Prelude.{◌≡◌, ◌<◌, ◌+◌, ◌++◌, ℕ, zero, suc, List, [], ◌∷◌, length, map, slice_index_or, take}
use Rattle.std.specs.List.{AllByRecursion, AllZip}
use Rattle.std.proofs.Common.{ap, arith, refl, subst, sym, ◌∙◌}
use Rattle.std.proofs.lemmas.List.{get_or_default, map-append, take_more}
use Rattle.call_values.specs.BuiltLists.{IsNoList, at}
use Rattle.call_values.specs.Read.{IsUnreadOf}
use Rattle.call_values.specs.declared.not_built.NotBuilt.{NotBuilt}
use Rattle.call_values.specs.declared.not_built.NotBuilt.TheVariants.{Part, Refused}

module _ {A B : Type 0} (R : A → B → Type 0) where
  zip_push : (xs : List A) (ys : List B) (x : A) (y : B) → AllZip R xs ys → R x y → AllZip R (xs ++ x ∷ []) (ys ++ y ∷ [])
  zip_push [] [] x y h r = (r, tt)
  zip_push [] (b ∷ bs) x y h r = absurd h
  zip_push (a ∷ more) [] x y h r = absurd h
  zip_push (a ∷ more) (b ∷ bs) x y h r = (h.0, zip_push more bs x y h.1 r)

  -- one more row
  pub one_more : (rows : List A) (all more : List B) (i : ℕ) (d : A) (y : B) → i < length rows → AllZip R (take i rows) all → R (slice_index_or rows i d) y → more ≡ all ++ y ∷ [] → AllZip R (take (i + 1) rows) more
  one_more rows all more i d y l h r e =
      let x = slice_index_or rows i d in
      let t : take (i + 1) rows ≡ take i rows ++ x ∷ [] = take_more rows i d l in
      subst (λ xs. AllZip R xs more) (sym t) (subst (λ m. AllZip R (take i rows ++ x ∷ []) m) (sym e) (zip_push (take i rows) all x y h r))

-- one more row, of what is seen of the items
pub one_more_seen : {A B Y : Type 0} (R : A → B → Type 0) (f : Y → B) (rows : List A) (all more : List Y) (i : ℕ) (d : A) (y : Y) → i < length rows → AllZip R (take i rows) (map f all) → R (slice_index_or rows i d) (f y) → more ≡ all ++ y ∷ [] → AllZip R (take (i + 1) rows) (map f more)
one_more_seen R f rows all more i d y l h r e = one_more R rows (map f all) (map f more) i d (f y) l h r (ap (map f) e ∙ map-append f all (y ∷ []))

-- the items at an index
pub zip_at : {A B : Type 0} (R : A → B → Type 0) (xs : List A) (ys : List B) (i : ℕ) (d : A) (y : B) → AllZip R xs ys → i < length xs → y ≡ slice_index_or ys i y → R (slice_index_or xs i d) y
zip_at R [] [] i d y h l e = absurd (omega (arith, l))
zip_at R [] (v ∷ vs) i d y h l e = absurd h
zip_at R (u ∷ us) [] i d y h l e = absurd h
zip_at R (u ∷ us) (v ∷ vs) zero d y h l e = subst (R u) (sym e) h.0
zip_at R (u ∷ us) (v ∷ vs) (suc i) d y h l e = zip_at R us vs i d y h.1 (omega (arith, l)) e

-- what holds of each item of the second list
pub zip_all : {A B : Type 0} (R : A → B → Type 0) (P : B → Type 0) → ((x : A) (y : B) → R x y → P y) → (xs : List A) (ys : List B) → AllZip R xs ys → AllByRecursion P ys
zip_all R P f [] [] h = tt
zip_all R P f [] (y ∷ ys) h = absurd h
zip_all R P f (x ∷ xs) [] h = absurd h
zip_all R P f (x ∷ xs) (y ∷ ys) h = (f x y h.0, zip_all R P f xs ys h.1)

-- what holds of each item of the first
pub zip_left : {A B : Type 0} (R : A → B → Type 0) (P : A → Type 0) → ((x : A) (y : B) → R x y → P x) → (xs : List A) (ys : List B) → AllZip R xs ys → AllByRecursion P xs
zip_left R P f [] [] h = tt
zip_left R P f [] (y ∷ ys) h = tt
zip_left R P f (x ∷ xs) [] h = absurd h
zip_left R P f (x ∷ xs) (y ∷ ys) h = (f x y h.0, zip_left R P f xs ys h.1)

-- the item at an index
pub all_at : {X : Type 0} (P : X → Type 0) (xs : List X) (i : ℕ) (d : X) → AllByRecursion P xs → i < length xs → P (slice_index_or xs i d)
all_at P [] i d all l = absurd (omega (arith, l))
all_at P (x ∷ xs) zero d all l = all.0
all_at P (x ∷ xs) (suc i) d all l = all_at P xs i d all.1 (omega (arith, l))

-- the first row that gives nothing, by its index
pub not_at : {X : Type 0} (Gives : X → Type 0) (Wrong : X → ℕ → Type 0) (rows : List X) (i : ℕ) (d : X) (w : NotBuilt) → i < length rows → AllByRecursion Gives (take i rows) → IsUnreadOf (Wrong (slice_index_or rows i d)) (Gives (slice_index_or rows i d)) w → IsNoList Gives Wrong rows (at i w)
not_at Gives Wrong rows i d (Part n) l before (wrong, none) =
    let item = slice_index_or rows i d in
    let is = get_or_default rows i d item l in
    (record { one = record { item = item; inside = l; is = is; none = none }; before = before }, record { item = item; inside = l; is = is; wrong = wrong })
not_at Gives Wrong rows i d (Refused e) l before m = m

-- the item of the first list at the index of one of the second
pub row_at : {A B : Type 0} (R : A → B → Type 0) (xs : List A) (ys : List B) (i : ℕ) (y : B) → AllZip R xs ys → i < length ys → y ≡ slice_index_or ys i y → (x : A) × (i < length xs) × (x ≡ slice_index_or xs i x) × R x y
row_at R [] [] i y h l e = absurd (omega (arith, l))
row_at R [] (v ∷ vs) i y h l e = absurd h
row_at R (u ∷ us) [] i y h l e = absurd h
row_at R (u ∷ us) (v ∷ vs) zero y h l e = (u, omega arith, refl, subst (R u) (sym e) h.0)
row_at R (u ∷ us) (v ∷ vs) (suc i) y h l e = (let r = row_at R us vs i y h.1 (omega (arith, l)) e in (r.0, omega (arith, r.1), r.2, r.3))
