-- The first item of a list that meets a test, along a loop.
use Rattle.std.specs.List.{find}
use Rattle.std.proofs.Common.{◌≡◌, ℕ, zero, suc, ◌+◌, ◌<◌, ◌≤◌, Bool, true, false, cond, List, [], ◌∷◌, map, drop, length, get_or, sym, ap, subst, ◌∙◌, add-one, refl, arith, Option, None, Some}
use Rattle.std.proofs.Math.ListN.{drop_of_length-le}
use Rattle.asn1_located.specs.Finding.{Skips}
use Rattle.certificate_ranges.specs.Indices.{IsFirstAt, index_from}
use Rattle.pkcs7_verifier.proofs.Firsts.{found, from_here, passed}

-- what a loop over the items keeps
abbrev pub Tracks : {X V : Type 0} → (X → V) → (V → Bool) → List X → ℕ → Type 0
Tracks f test xs i = (find test (map f (drop i xs)) ≡ find test (map f xs)) × (index_from i test (map f (drop i xs)) ≡ index_from 0 test (map f xs))

pub first_at : {X V : Type 0} (f : X → V) (xs : List X) (i : ℕ) (x : X) → i < length xs → x ≡ get_or xs i x → (test : V → Bool) → Tracks f test xs i → true ≡ test (f x) → IsFirstAt test (map f xs) i (f x)
first_at f xs i x h e test before t = (
  sym before.1 ∙ ap (index_from i test) (from_here f xs i x h e) ∙ ap (λ b. cond b (Some i) (index_from (suc i) test (map f (drop (i + 1) xs)))) (sym t),
  sym (found f xs i x h e test before.0 t),
)

pub goes_on : {X V : Type 0} (f : X → V) (xs : List X) (i : ℕ) (x : X) → i < length xs → x ≡ get_or xs i x → (test : V → Bool) → Tracks f test xs i → false ≡ test (f x) → Tracks f test xs (i + 1)
goes_on f xs i x h e test before t =
    let step : index_from i test (map f (drop i xs)) ≡ index_from (suc i) test (map f (drop (i + 1) xs)) = ap (index_from i test) (from_here f xs i x h e) ∙ ap (λ b. cond b (Some i) (index_from (suc i) test (map f (drop (i + 1) xs)))) (sym t) in (
      passed f xs i x h e test before.0 t,
      ap (λ j. index_from j test (map f (drop (i + 1) xs))) (add-one i) ∙ sym step ∙ before.1,
    )

pub none_at_end : {X V : Type 0} (f : X → V) (xs : List X) (i : ℕ) (test : V → Bool) → length xs ≤ i → Tracks f test xs i → find test (map f xs) ≡ None
none_at_end f xs i test h before = sym before.0 ∙ ap (λ ys. find test (map f ys)) (drop_of_length-le xs h)

pub some_same : {X : Type 0} {o : Option X} {a b : X} → o ≡ Some a → o ≡ Some b → a ≡ b
some_same {X} {o} {a} {b} p q = let e : Some a ≡ Some b = sym p ∙ q in cc

pub some_none : {X : Type 0} {o : Option X} {a : X} → o ≡ Some a → o ≡ None → ⊥
some_none {X} {o} {a} p q = let e : Some a ≡ None = sym p ∙ q in cc

one_more : {V : Type 0} (j : ℕ) (x : V) (xs us : List V) → Skips j xs us → Skips (suc j) (x ∷ xs) us
one_more zero x xs us e = (x, ap (λ l. x ∷ l) e)
one_more (suc j) x xs us (v, s) = (v, one_more j x xs (v ∷ us) s)

-- the item at an index that was counted from n on, of which the test is true first
pub record IsCounted {V : Type 0} (test : V → Bool) (n : ℕ) (xs : List V) (i : ℕ) : Type 0 where
  pub skipped : ℕ
  pub count : i ≡ n + skipped
  pub first : V
  pub others : List V
  pub skips : Skips skipped xs (first ∷ others)
  pub is_first : find test xs ≡ Some first

by_test : {V : Type 0} (test : V → Bool) (n i : ℕ) (x : V) (xs : List V) → ((j : ℕ) → index_from (suc n) test xs ≡ Some j → IsCounted test (suc n) xs j) → (b : Bool) → test x ≡ b → cond b (Some n) (index_from (suc n) test xs) ≡ Some i → IsCounted test n (x ∷ xs) i
by_test test n i x xs later true t e =
    let s : Some n ≡ Some i = e in
    let same : n ≡ i = cc in
    record { skipped = 0; count = omega (arith, same); first = x; others = xs; skips = refl; is_first = ap (λ b. cond b (Some x) (find test xs)) t }
by_test test n i x xs later false t e =
    let r = later i e in
    record { skipped = suc r.skipped; count = omega (arith, r.count); first = r.first; others = r.others; skips = one_more r.skipped x xs (r.first ∷ r.others) r.skips; is_first = ap (λ b. cond b (Some x) (find test xs)) t ∙ r.is_first }

counted : {V : Type 0} (test : V → Bool) (n : ℕ) (xs : List V) (i : ℕ) → index_from n test xs ≡ Some i → IsCounted test n xs i
counted test n [] i e = absurd (let s : None ≡ Some i = e in cc)
counted test n (x ∷ xs) i e = by_test test n i x xs (λ j s. counted test (suc n) xs j s) (test x) refl e

-- as many items come before it as its index says
pub skipped_to : {V : Type 0} (test : V → Bool) (xs : List V) (i : ℕ) (x : V) → IsFirstAt test xs i x → (others : List V) × Skips i xs (x ∷ others)
skipped_to test xs i x first =
    let s = counted test 0 xs i first.0 in
    let index : s.skipped ≡ i = omega (arith, s.count) in
    let same : s.first ≡ x = some_same s.is_first first.1 in
    (s.others, subst (λ y. Skips i xs (y ∷ s.others)) same (subst (λ n. Skips n xs (s.first ∷ s.others)) index s.skips))
