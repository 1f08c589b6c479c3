-- Rows of values that follow one another.
use Rattle.std.specs.Prelude.{◌≡◌, ℕ, zero, suc, ◌+◌, ◌-◌, ◌<◌, ◌≤◌, List, [], ◌∷◌, ◌++◌, length, take, drop, get_or, map, slice_range, Result, Err}
use Rattle.std.specs.declared.ops.Range.{Range}
use Rattle.std.proofs.Common.{refl, sym, ap, subst, ◌∙◌, arith, length-append}
use Rattle.std.proofs.lemmas.List.{append-nil, append_assoc, drop_all, drop_more, map-append, take_all, take_more}
use Rattle.std.proofs.lemmas.List.Edits.{length-between}
use Rattle.asn1_core.specs.Der.{Format, IsLawful}
use Rattle.asn1_core_format.specs.Lists.{ReadsAll}
use Rattle.asn1_located.specs.Finding.{any_element}
use Rattle.asn1_located.specs.Places.{Walk}
use Rattle.asn1_located.specs.declared.walks.Step.TheVariants.{Element}
use Rattle.input_ranges.specs.declared.ranges.Refusal.{Refusal}
use Rattle.located_rows.specs.Rows.{LeadsTo}
use Rattle.bag_ranges.proofs.Failures.{without}
use Rattle.bag_ranges.proofs.InRanges.{cut, within}
use Rattle.bag_ranges.specs.Bags.{InOrder, IsIn, Rows}
use Rattle.bag_ranges.specs.Failures.{Adds, HasNone, HasNoRows, Pushes, PushesSome}
use Rattle.bag_ranges.specs.declared.ranges.BagRanges.{BagRanges}

-- rows that are of something else too
pub also : {P Q : List BagRanges → Type 0} {old new : List BagRanges} → ((rows : List BagRanges) → P rows → Q rows) → Adds P old new → Adds Q old new
also f a = record { added = a.added; is = a.is; all = f a.added a.all }

-- an error, where there are no rows
pub no_rows : {A : Type 0} (Q : Rows) (m n : ℕ) (old new : List BagRanges) (r : Result A Refusal) (e : Refusal) → r ≡ Err e → HasNoRows Q e → Pushes Q m n old new r
no_rows Q m n old new r e h none = subst (Pushes Q m n old new) (sym h) none

pub none_pushed : {A : Type 0} (Q : List BagRanges → Type 0) (old new : List BagRanges) (r : Result A Refusal) (e : Refusal) → r ≡ Err e → HasNone Q e → PushesSome Q old new r
none_pushed Q old new r e h none = subst (PushesSome Q old new) (sym h) none

module _ {V : Type 0} (Q : V → Rows) where
  -- one more value after others
  more : (vs : List V) (m k n : ℕ) (rows : List BagRanges) (v : V) (last : List BagRanges) → InOrder Q vs m k rows → Q v k n last → InOrder Q (vs ++ v ∷ []) m n (rows ++ last)
  more [] m k n rows v last (e, none) q = (n, last, [], ap (λ r. r ++ last) none ∙ sym (append-nil last), subst (λ j. Q v j n last) (sym e) q, (refl, refl))
  more (u ∷ vs) m k n rows v last (l, first, rest, e, p, others) q =
      (l, first, rest ++ last, ap (λ r. r ++ last) e ∙ append_assoc first rest last, p, more vs l k n rest v last others q)

  -- where one of some values has no rows, all together have none
  rows_of_one : {X : Type 0} (f : X → V) (xs : List X) (i : ℕ) (x : X) → i < length xs → x ≡ get_or xs i x → (m n : ℕ) (rows : List BagRanges) → InOrder Q (map f xs) m n rows → (p : ℕ × ℕ × List BagRanges) × Q (f x) p.0 p.1 p.2
  rows_of_one f [] i x h e m n rows q = absurd (omega (arith, h))
  rows_of_one f (y ∷ xs) zero x h e m n rows (k, first, rest, s, p, others) = ((m, k, first), subst (λ z. Q (f z) m k first) (sym e) p)
  rows_of_one f (y ∷ xs) (suc i) x h e m n rows (k, first, rest, s, p, others) = rows_of_one f xs i x (omega (arith, h)) e k n rest others

  pub none_of_one : {X : Type 0} (f : X → V) (xs : List X) (i : ℕ) (x : X) (e : Refusal) → i < length xs → x ≡ get_or xs i x → HasNoRows (Q (f x)) e → HasNoRows (InOrder Q (map f xs)) e
  none_of_one f xs i x e h g n = without (λ p q. rows_of_one f xs i x h g p.0 p.1 p.2 q) n

  module _ (F : Format V) (law : IsLawful F) {X : Type 0} (f : X → V) (xs : List X) (b : List ℕ) (m n : ℕ) (start : List BagRanges) where
    -- the rows of the values so far were added, and the others are in the input from k to n
    pub record SoFar (i k : ℕ) (rows : List BagRanges) : Type 0 where
      pub added : Adds (InOrder Q (map f (take i xs)) m k) start rows
      pub left : ReadsAll (F.Reads 64) (slice_range b k n) (map f (drop i xs))
      pub inside : (k ≤ n) × (n ≤ length b)

    pub none_yet : IsIn (λ k c vs. ReadsAll (F.Reads k) c vs) b m n (map f xs) → SoFar 0 m start
    none_yet is = record { added = record { added = []; is = sym (append-nil start); all = (refl, refl) }; left = is.reads; inside = is.inside }

    pub all_of_them : (i k : ℕ) (rows : List BagRanges) → length xs ≤ i → SoFar i k rows → Adds (InOrder Q (map f xs) m n) start rows
    all_of_them i k rows h so_far =
        let empty : slice_range b k n ≡ [] = subst (λ vs. ReadsAll (F.Reads 64) (slice_range b k n) (map f vs)) (drop_all i xs h) so_far.left in
        let long : length (slice_range b k n) ≡ n - k = length-between b k n so_far.inside.1 in
        let end : k ≡ n = omega (arith, long, ap length empty, so_far.inside.0) in
        also (λ r q. subst (λ j. InOrder Q (map f xs) m j r) end (subst (λ ys. InOrder Q (map f ys) m k r) (take_all i xs h) q)) so_far.added

    module _ (i k : ℕ) (old : List BagRanges) (x : X) (less : i < length xs) (e : x ≡ get_or xs i x) (so_far : SoFar i k old) where
      from_here : map f (drop i xs) ≡ f x ∷ map f (drop (i + 1) xs)
      from_here = ap (map f) (drop_more xs i x less ∙ ap (λ y. y ∷ drop (i + 1) xs) (sym e))

      next : ReadsAll (F.Reads 64) (slice_range b k n) (f x ∷ map f (drop (i + 1) xs))
      next = subst (ReadsAll (F.Reads 64) (slice_range b k n)) from_here so_far.left

      begins : Walk (Element ∷ []) k (slice_range b k n) k next.0
      begins = (k, next.0, record { rest = next.1; is = any_element F.IsTag next.0 (law.element 64 next.0 (f x) next.3); split = next.2; place = refl }, (refl, refl))

      module _ (place : Range ℕ) (leads : LeadsTo (Element ∷ []) k (slice_range b k n) place.start place.end) where
        at : (place.start ≡ k) × (place.end ≡ k + length next.0)
        at = leads k next.0 begins

        size : place.end ≡ place.start + length next.0
        size = omega (arith, at.0, at.1)

        first_is : slice_range b place.start place.end ≡ next.0
        first_is = cut b [] next.0 next.1 k n so_far.inside.0 so_far.inside.1 next.2 place.start place.end (omega (arith, at.0)) size

        first_in : (place.start ≤ place.end) × (place.end ≤ n)
        first_in = let w = within b [] next.0 next.1 k n so_far.inside.0 so_far.inside.1 next.2 place.start place.end (omega (arith, at.0)) size in (w.1, w.2)

        -- the next value is there
        pub one_there : IsIn F.Reads b place.start place.end (f x)
        one_there = record { reads = subst (λ c. F.Reads 64 c (f x)) (sym first_is) next.3; inside = (first_in.0, omega (arith, first_in.1, so_far.inside.1)) }

        rest_is : slice_range b place.end n ≡ next.1
        rest_is =
            let split : slice_range b k n ≡ next.0 ++ (next.1 ++ []) = next.2 ∙ ap (λ t. next.0 ++ t) (sym (append-nil next.1)) in
            let long : length (slice_range b k n) ≡ n - k = length-between b k n so_far.inside.1 in
            cut b next.0 next.1 [] k n so_far.inside.0 so_far.inside.1 split place.end n at.1 (omega (arith, long, ap length next.2, length-append next.0 next.1, at.1, first_in.1, so_far.inside.0))

        pub one_more : (new : List BagRanges) → Adds (Q (f x) place.start place.end) old new → SoFar (i + 1) place.end new
        one_more new a =
            let up_to : map f (take (i + 1) xs) ≡ map f (take i xs) ++ f x ∷ [] = ap (map f) (take_more xs i x less ∙ ap (λ y. take i xs ++ y ∷ []) (sym e)) ∙ map-append f (take i xs) (x ∷ []) in
            let before = so_far.added in
            let here : Q (f x) k place.end a.added = subst (λ j. Q (f x) j place.end a.added) at.0 a.all in
            record {
              added = record {
                added = before.added ++ a.added;
                is = a.is ∙ ap (λ r. r ++ a.added) before.is ∙ append_assoc start before.added a.added;
                all = subst (λ vs. InOrder Q vs m place.end (before.added ++ a.added)) (sym up_to) (more (map f (take i xs)) m k place.end before.added (f x) a.added before.all here);
              };
              left = subst (λ c. ReadsAll (F.Reads 64) c (map f (drop (i + 1) xs))) (sym rest_is) next.4;
              inside = (first_in.1, so_far.inside.1);
            }
