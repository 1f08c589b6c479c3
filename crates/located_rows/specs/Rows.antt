-- Rows, one for each item of a list in an input. Q says what a row is of its item: of the octets that begin with the item,
-- and of where these begin. No type is mentioned but in the ranges of parts.
use Rattle.std.specs.Prelude.{◌≡◌, ◌≤◌, ◌<◌, ◌+◌, ℕ, List, [], ◌∷◌, ◌++◌, length, get_or, Some, slice_get, slice_range}
use Rattle.std.specs.declared.ops.Range.{Range}
use Rattle.std.proofs.Common.{arith}
use Rattle.asn1_core.specs.Der.{Format, IsLawful, each}
use Rattle.asn1_located.specs.Finding.{Skips}
use Rattle.asn1_located.specs.Places.{FollowsMany, IsPlaceOf, Reading, Route, Walk}
use Rattle.asn1_located.specs.Routes.{item_found, ◌▸◌}
use Rattle.asn1_located.specs.declared.walks.Step.{Step}
use Rattle.asn1_located.specs.declared.walks.Step.TheVariants.{Element, Nth}

-- P of each item and its index
abbrev pub AllAt : {A : Type 0} → (ℕ → A → Type 0) → List A → Type 0
AllAt {A} P xs = (i : ℕ) → i < length xs → (d : A) → P i (get_or xs i d)

-- the row of the item with an index of the list to whose contents the steps lead from the octets x, which begin at m
abbrev pub IsRowAt : {A : Type 0} → (ℕ → List ℕ → A → Type 0) → List Step → ℕ → List ℕ → ℕ → A → Type 0
IsRowAt Q list m x i row = (n : ℕ) × (y : List ℕ) × Walk (list ++ Nth i ∷ []) m x n y × Q n y row

pub record AreRows {A : Type 0} (Q : ℕ → List ℕ → A → Type 0) (list : List Step) (m : ℕ) (x : List ℕ) (rows : List A) : Type 0 where
  pub each : AllAt (IsRowAt Q list m x) rows
  -- the list has as many elements, and nothing after them
  pub count : (l : ℕ) × (z : List ℕ) × (n : ℕ) × Walk list m x l z × FollowsMany (length rows) l z n []

-- the steps lead to no elements that follow one another to their end
abbrev pub HasNoList : List Step → ℕ → List ℕ → Type 0
HasNoList list m x = (l : ℕ) (z : List ℕ) → Walk list m x l z → (count n : ℕ) → FollowsMany count l z n [] → ⊥

-- where the steps lead somewhere from the octets x, which begin at m, it is this range
abbrev pub LeadsTo : List Step → ℕ → List ℕ → ℕ → ℕ → Type 0
LeadsTo steps m x start end = (n : ℕ) (y : List ℕ) → Walk steps m x n y → (start ≡ n) × (end ≡ n + length y)

-- the octets of the input b from start to end are the part w of its value v, in that part's own place
pub record IsRangeOf {V W : Type 0} {R : Reading V} {S : Reading W} (route : Route R S) (k : ℕ) (b : List ℕ) (v : V) (w : W) (start end : ℕ) : Type 0 where
  pub place : IsPlaceOf route k b v w start (slice_range b start end)
  pub inside : (start ≤ end) × (end ≤ length b)

-- to the item with an index of a list
abbrev pub entry : {V : Type 0} (F : Format V) → IsLawful F → ℕ → Route (each F).Reads F.Reads
entry {V} F law i = record {
  steps = Nth i ∷ Element ∷ [];
  IsPart = λ vs w. (rest : List V) × Skips i vs (w ∷ rest);
  found = λ k vs w o m x s. item_found 0x30 (omega arith) F law i k vs w o m x s;
}

-- the range of the element with which the octets x begin, which begin at m
abbrev pub IsElementRange : ℕ → List ℕ → Range ℕ → Type 0
IsElementRange m x r = LeadsTo (Element ∷ []) m x r.start r.end

-- the ranges are those of the items of the list to which the route leads, each in its own place
pub record AreItemsOf {V W : Type 0} {R : Reading V} (F : Format W) (law : IsLawful F) (list : Route R (each F).Reads) (b : List ℕ) (v : V) (items : List W) (ranges : List (Range ℕ)) : Type 0 where
  pub each : AllAt (λ i r. (w : W) → slice_get items i ≡ Some w → IsRangeOf (list ▸ entry F law i) 64 b v w r.start r.end) ranges
  pub count : length ranges ≡ length items
