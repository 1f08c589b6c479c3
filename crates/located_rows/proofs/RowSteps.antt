-- What the rows so far say.
use Rattle.std.specs.Prelude.{◌≡◌, ◌≢◌, ◌≤◌, ◌<◌, ◌+◌, ℕ, zero, suc, List, [], ◌∷◌, ◌++◌, length, Result, Ok, Err, MatchResult}
use Rattle.std.proofs.Common.{refl, sym, ap, subst, arith, length-append, ⊎_elim}
use Rattle.std.proofs.lemmas.Bool.{cases_lt}
use Rattle.asn1_core_element.specs.declared.error.Error.{Error}
use Rattle.asn1_core_element.specs.declared.error.Error.TheVariants.{Memory}
use Rattle.asn1_core_format.specs.laws.Formats.{element_some}
use Rattle.asn1_located.specs.laws.LocatedLaws.{one_walk}
use Rattle.asn1_located.specs.Places.{Follows, FollowsMany, Walk}
use Rattle.asn1_located.specs.laws.WalkLaws.{fits, one_many, step_lies_in, walk_on}
use Rattle.asn1_located.specs.declared.walks.Step.{Step}
use Rattle.asn1_located.specs.declared.walks.Step.TheVariants.{After, Nth}
use Rattle.located_rows.proofs.RowLaws.{many_ends, none_yet, one_more}
use Rattle.located_rows.specs.Rows.{AllAt, AreRows, HasNoList, IsRowAt, LeadsTo}

-- a walk leads to one place
pub leads_there : (steps : List Step) (m : ℕ) (x : List ℕ) (n : ℕ) (y : List ℕ) → Walk steps m x n y → LeadsTo steps m x n (n + length y)
leads_there steps m x n y walk o z w = let e = one_walk steps m x n o y z walk w in (e.0, omega (arith, e.0, ap length e.1))

pub leads_nowhere : (steps : List Step) (m : ℕ) (x : List ℕ) → ((n : ℕ) (y : List ℕ) → Walk steps m x n y → ⊥) → LeadsTo steps m x 0 0
leads_nowhere steps m x none n y w = absurd (none n y w)

pub one_after : (m : ℕ) (x : List ℕ) (n : ℕ) (y : List ℕ) → Walk (After ∷ []) m x n y → Follows m x n y
one_after m x n y (l, z, f, s) = subst (λ j. Follows m x j y) (sym s.0) (subst (λ u. Follows m x l u) (sym s.1) f)

pub no_after : (m : ℕ) (x : List ℕ) → ((n : ℕ) (y : List ℕ) → Walk (After ∷ []) m x n y → ⊥) → (n : ℕ) (y : List ℕ) → Follows m x n y → ⊥
no_after m x none n y f = none n y (n, y, f, (refl, refl))

pub shorter : (m : ℕ) (x : List ℕ) (n : ℕ) (y : List ℕ) → Follows m x n y → length y < length x
shorter m x n y f = omega (arith, ap length f.split, length-append f.element y, element_some (λ _. Unit {0}) f.element f.is)

pub none_left : (x : List ℕ) → length x ≤ 0 → x ≡ []
none_left [] h = refl
none_left (a ∷ x) h = absurd (omega (arith, h))

module _ {A : Type 0} (Q : ℕ → List ℕ → A → Type 0) (m : ℕ) (x : List ℕ) where
  -- the rows so far are those of the first elements, and y, which begins at n, is what follows these
  pub record SoFar (rows : List A) (n : ℕ) (y : List ℕ) : Type 0 where
    pub follows : FollowsMany (length rows) m x n y
    pub each : AllAt (IsRowAt Q [] m x) rows
    pub inside : n + length y ≤ m + length x

  pub no_rows_yet : SoFar [] m x
  no_rows_yet = record { follows = (refl, refl); each = none_yet (IsRowAt Q [] m x); inside = omega arith }

  module _ (rows now : List A) (r : A) (is : now ≡ rows ++ r ∷ []) (n : ℕ) (y : List ℕ) (so_far : SoFar rows n y) (q : Q n y r) (l : ℕ) (z : List ℕ) (next : Follows n y l z) where
    pub one_row_more : SoFar now l z
    one_row_more =
        let e : suc (length rows) ≡ length (rows ++ r ∷ []) = omega (arith, length-append rows (r ∷ [])) in
        let s : SoFar (rows ++ r ∷ []) l z = record {
          follows = subst (λ c. FollowsMany c m x l z) e (n, y, so_far.follows, next);
          each = one_more (IsRowAt Q [] m x) rows r so_far.each (n, y, (n, y, so_far.follows, (refl, refl)), q);
          inside = omega (arith, so_far.inside, fits (step_lies_in After n y l z next));
        } in
        subst (λ rs. SoFar rs l z) (sym is) s

  module _ (rows : List A) (n : ℕ) (y : List ℕ) (so_far : SoFar rows n y) where
    pub all_rows : y ≡ [] → AreRows Q [] m x rows
    all_rows empty = record { each = so_far.each; count = (m, x, n, (refl, refl), subst (λ t. FollowsMany (length rows) m x n t) empty so_far.follows) }

    -- no more elements follow where none follows
    many_none : (count : ℕ) → length rows < count → ((l : ℕ) (z : List ℕ) → Follows n y l z → ⊥) → (e : ℕ) (u : List ℕ) → FollowsMany count m x e u → ⊥
    many_none zero h none e u f = omega (arith, h)
    many_none (suc c) h none e u (k, t, f, last) = ⊎_elim
        (λ (less : length rows < c). many_none c less none k t f)
        (λ (more : c ≤ length rows).
        (let is : c ≡ length rows = omega (arith, h, more) in
        let o = one_many (length rows) m x k n t y (subst (λ j. FollowsMany j m x k t) is f) so_far.follows in
        none e u (subst (λ j. Follows j y e u) o.0 (subst (λ w. Follows k w e u) o.1 last))))
        (cases_lt (length rows) c)

    pub no_list : (y ≡ [] → ⊥) → ((l : ℕ) (z : List ℕ) → Follows n y l z → ⊥) → HasNoList [] m x
    no_list left none l z w count e many =
        let here : FollowsMany count m x e [] = subst (λ j. FollowsMany count j x e []) w.0 (subst (λ t. FollowsMany count l t e []) w.1 many) in
        ⊎_elim
        (λ (less : length rows < count). many_none count less none e [] here)
        (λ (more : count ≤ length rows). left (many_ends count (length rows) m x e n y more here so_far.follows).1)
        (cases_lt (length rows) count)

-- the same from where the list is
module _ {A : Type 0} (Q : ℕ → List ℕ → A → Type 0) (list : List Step) (m : ℕ) (x : List ℕ) (l : ℕ) (z : List ℕ) (walk : Walk list m x l z) where
  rows_there : (rows : List A) → AreRows Q [] l z rows → AreRows Q list m x rows
  rows_there rows a = record {
    each = λ i h d. (let r = a.each i h d in (r.0, r.1, walk_on list (Nth i ∷ []) m l r.0 x z r.1 walk r.2, r.3));
    count =
        (let c = a.count in
        (l, z, c.2, walk, subst (λ j. FollowsMany (length rows) j z c.2 []) c.3.0 (subst (λ t. FollowsMany (length rows) c.0 t c.2 []) c.3.1 c.4)));
  }

  no_list_there : HasNoList [] l z → HasNoList list m x
  no_list_there none j t w count n many =
      let o = one_walk list m x j l t z w walk in
      none l z (refl, refl) count n (subst (λ k. FollowsMany count k z n []) o.0 (subst (λ u. FollowsMany count j u n []) o.1 many))

  pub there : {B : Type 0} (items : B → List A) (r : Result B Error) → MatchResult r (λ a. AreRows Q [] l z (items a)) (λ e. e ≢ Memory → HasNoList [] l z) → MatchResult r (λ a. AreRows Q list m x (items a)) (λ e. e ≢ Memory → HasNoList list m x)
  there items (Ok a) h = rows_there (items a) h
  there items (Err e) h = λ other. no_list_there (h other)
