-- Lists of parts that are given, of which one can't be written.
use Rattle.std.specs.Prelude.{◌≡◌, ◌<◌, ℕ, List, [], ◌∷◌, length, slice_index_or, take, Option, None, Some}
use Rattle.std.specs.List.{AllByRecursion, AllZip}
use Rattle.std.proofs.Common.{ap, refl, subst, sym}
use Rattle.std.proofs.lemmas.List.{get_or_default}
use Rattle.asn1_core.specs.Der.{Octets as OctetList}
use Rattle.attribute_writers.specs.Refusals.{IsFirstWithout, IsWithout}
use Rattle.call_values.proofs.BuiltLists.{all_at, row_at, zip_left}
use Rattle.call_values.proofs.GivenParts.{same_part}
use Rattle.call_values.specs.Given.{IfGiven, IsPartOf}
use Rattle.call_values.specs.Read.{HasOne}
use Rattle.call_values.specs.declared.ranges.Octets.{Octets}

module _ (b : List ℕ) where
  pub same_octets : (flag : ℕ) (r : Octets) (o p : Option OctetList) → IfGiven flag (IsPartOf b r) o → IfGiven flag (IsPartOf b r) p → o ≡ p
  same_octets flag r None None is its = refl
  same_octets flag r None (Some y) is its = absurd (its.0 is)
  same_octets flag r (Some x) None is its = absurd (is.0 its)
  same_octets flag r (Some x) (Some y) is its = ap Some (same_part b r y x its.1 is.1)

  -- the ranges before one that isn't in the input
  pub all_there : (parts : List Octets) (all : List (List ℕ)) → AllZip (IsPartOf b) parts all → AllByRecursion (λ part. HasOne (IsPartOf b part)) parts
  all_there = zip_left (IsPartOf b) (λ part. HasOne (IsPartOf b part)) (λ part x is. (x, is))

-- the first item that gives nothing
pub none_at : {X : Type 0} (Gives : X → Type 0) (rows : List X) (i : ℕ) (d : X) → i < length rows → AllByRecursion Gives (take i rows) → (Gives (slice_index_or rows i d) → ⊥) → IsFirstWithout Gives rows i
none_at Gives rows i d l before none = record { one = record { item = slice_index_or rows i d; inside = l; is = get_or_default rows i d (slice_index_or rows i d) l; none = none }; before = before }

-- an item that gives nothing gives nothing of which more is asked
pub less : {X : Type 0} (P Q : X → Type 0) (xs : List X) (i : ℕ) → ((x : X) → Q x → P x) → IsWithout P xs i → IsWithout Q xs i
less P Q xs i f w = record { item = w.item; inside = w.inside; is = w.is; none = λ q. w.none (f w.item q) }

zip_with : {X Y : Type 0} (R : X → Y → Type 0) (P : Y → Type 0) (xs : List X) (ys : List Y) → AllZip R xs ys → AllByRecursion P ys → AllByRecursion (λ x. (y : Y) × R x y × P y) xs
zip_with R P [] ys are all = tt
zip_with R P (x ∷ xs) [] are all = absurd are
zip_with R P (x ∷ xs) (y ∷ ys) are all = ((y, are.0, all.0), zip_with R P xs ys are.1 all.1)

-- where a row gives nothing of which P holds, P doesn't hold of all that the rows give
pub not_all : {X Y : Type 0} (R : X → Y → Type 0) (P : Y → Type 0) (Q : X → Type 0) → ((x : X) → ((y : Y) × R x y × P y) → Q x) → (xs : List X) (ys : List Y) (i : ℕ) → IsWithout Q xs i → AllZip R xs ys → AllByRecursion P ys → ⊥
not_all {X} {Y} R P Q f xs ys i w are all =
    let there = all_at (λ x. (y : Y) × R x y × P y) xs i w.item (zip_with R P xs ys are all) w.inside in
    w.none (subst Q (sym w.is) (f (slice_index_or xs i w.item) there))

-- of an item of which P doesn't hold the row gives none of which it does
pub row_without : {X Y : Type 0} (R : X → Y → Type 0) (P : Y → Type 0) → ((x : X) (y z : Y) → R x y → R x z → z ≡ y) → (xs : List X) (ys : List Y) (i : ℕ) → AllZip R xs ys → IsWithout P ys i → IsWithout (λ x. (y : Y) × R x y × P y) xs i
row_without R P same xs ys i are w =
    let row = row_at R xs ys i w.item are w.inside w.is in
    record { item = row.0; inside = row.1; is = row.2; none = λ g. w.none (subst P (same row.0 w.item g.0 row.3 g.1) g.2) }
