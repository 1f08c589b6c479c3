-- What rows say of an input that reads as a value: as many as the list has items, each the row of its item.
use Rattle.std.specs.Prelude.{◌≡◌, ◌≢◌, ◌≤◌, ◌<◌, ℕ, zero, suc, List, [], ◌∷◌, ◌++◌, length, get_or, slice_get, slice_range, None, Some, Result, Ok, Err, MatchResult}
use Rattle.std.specs.declared.ops.Range.{Range}
use Rattle.std.proofs.Common.{refl, sym, ap, ◌∙◌, subst, inl, inr, append_assoc, arith, length-append, ⊎_elim}
use Rattle.std.proofs.Math.ListN.{get_or-append}
use Rattle.std.proofs.Math.Seq.{get_or-append_seam}
use Rattle.std.proofs.lemmas.Bool.{cases_lt}
use Rattle.asn1_core_element.specs.Element.{IsElement}
use Rattle.asn1_core_element.specs.declared.error.Error.{Error}
use Rattle.asn1_core_element.specs.declared.error.Error.TheVariants.{Malformed, Missing, Invalid, TooDeep, TooLong, Memory}
use Rattle.asn1_core_format.specs.Format.{Format, IsLawful}
use Rattle.asn1_core_format.specs.laws.Formats.{element_some}
use Rattle.asn1_core_format.specs.Lists.{each}
use Rattle.asn1_located.proofs.Ranges.{range_of_walk}
use Rattle.asn1_located.specs.Finding.{Skips, follows_many}
use Rattle.asn1_located.specs.laws.LocatedLaws.{one_walk, place_of}
use Rattle.asn1_located.specs.Places.{Follows, FollowsMany, Reading, Route, Walk}
use Rattle.asn1_located.specs.Routes.{◌▸◌}
use Rattle.asn1_located.specs.laws.WalkLaws.{one_many}
use Rattle.asn1_located.specs.declared.walks.Step.{Step}
use Rattle.asn1_located.specs.declared.walks.Step.TheVariants.{Element, Nth}
use Rattle.located_rows.specs.Rows.{AllAt, AreItemsOf, AreRows, HasNoList, IsElementRange, IsRangeOf, LeadsTo, entry}

pub only_memory : (e : Error) → (e ≢ Memory → ⊥) → e ≡ Memory
only_memory Malformed h = absurd (h (λ m. (let x : Malformed ≡ Memory = m in cc)))
only_memory Missing h = absurd (h (λ m. (let x : Missing ≡ Memory = m in cc)))
only_memory Invalid h = absurd (h (λ m. (let x : Invalid ≡ Memory = m in cc)))
only_memory TooDeep h = absurd (h (λ m. (let x : TooDeep ≡ Memory = m in cc)))
only_memory TooLong h = absurd (h (λ m. (let x : TooLong ≡ Memory = m in cc)))
only_memory Memory h = refl

no_empty : (e y : List ℕ) → IsElement (λ _. Unit {0}) e → [] ≡ e ++ y → ⊥
no_empty e y is s = omega (arith, ap length s, length-append e y, element_some (λ _. Unit {0}) e is)

none_in_none : (m : ℕ) (x : List ℕ) (n : ℕ) (y : List ℕ) → x ≡ [] → Follows m x n y → ⊥
none_in_none m x n y e f = no_empty f.element y f.is (sym e ∙ f.split)

-- so many elements lead to the end: more lead nowhere
pub many_ends : (count i m : ℕ) (x : List ℕ) (e n : ℕ) (y : List ℕ) → count ≤ i → FollowsMany count m x e [] → FollowsMany i m x n y → (i ≡ count) × (y ≡ [])
many_ends zero zero m x e n y h a b = (refl, b.1 ∙ sym a.1)
many_ends (suc c) zero m x e n y h a b = absurd (omega (arith, h))
many_ends count (suc i) m x e n y h a (l, z, f, last) = ⊎_elim
    (λ (less : count ≤ i). absurd (none_in_none l z n y (many_ends count i m x e l z less a f).1 last))
    (λ (more : i < count).
    (let is : count ≡ suc i = omega (arith, h, more) in
    let o = one_many (suc i) m x n e y [] (l, z, f, last) (subst (λ c. FollowsMany c m x e []) is a) in
    (sym is, o.1)))
    (⊎_elim (λ (p : i < count). inr p) (λ (p : count ≤ i). inl p) (cases_lt i count))

one_count : (c d m : ℕ) (x : List ℕ) (e n : ℕ) → FollowsMany c m x e [] → FollowsMany d m x n [] → c ≡ d
one_count c d m x e n a b = ⊎_elim
    (λ (less : c < d). sym (many_ends c d m x e n [] (omega (arith, less)) a b).0)
    (λ (more : d ≤ c). (many_ends d c m x n e [] more b a).0)
    (cases_lt c d)

-- a walk in its two parts
pub walk_apart : (p q : List Step) (m n : ℕ) (x y : List ℕ) → Walk (p ++ q) m x n y → (k : ℕ) × (z : List ℕ) × Walk p m x k z × Walk q k z n y
walk_apart [] q m n x y w = (m, x, (refl, refl), w)
walk_apart (s ∷ p) q m n x y (l, u, f, w) = let a = walk_apart p q l n u y w in (a.0, a.1, (l, u, f, a.2), a.3)

-- where steps lead from the octets to which others lead
pub leads_after : (p q : List Step) (m : ℕ) (x : List ℕ) (l : ℕ) (z : List ℕ) → Walk p m x l z → (start end : ℕ) → LeadsTo q l z start end → LeadsTo (p ++ q) m x start end
leads_after p q m x l z walk start end f n y w =
    let a = walk_apart p q m n x y w in
    let o = one_walk p m x a.0 l a.1 z a.2 walk in
    f n y (subst (λ j. Walk q j z n y) o.0 (subst (λ u. Walk q a.0 u n y) o.1 a.3))

module _ {V W : Type 0} {R : Reading V} {S : Reading W} (route : Route R S) (k : ℕ) (b : List ℕ) (v : V) (reads : R k b v) (w : W) (is : route.IsPart v w) where
  -- where the value has the part, the range to which the steps of its route lead is its range
  pub range_is : (start end : ℕ) → LeadsTo route.steps 0 b start end → IsRangeOf route k b v w start end
  range_is start end leads =
      let a = route.found k v w is 0 b reads in
      let e = leads a.0 a.1 a.2 in
      let walk : Walk route.steps 0 b start a.1 = subst (λ n. Walk route.steps 0 b n a.1) (sym e.0) a.2 in
      let r = range_of_walk route.steps b start a.1 end (omega (arith, e.0, e.1)) walk in
      record { place = place_of route k b v reads w is start (slice_range b start end) r.walk; inside = r.inside }

module _ {U : Type 0} where
  skips_more : (i : ℕ) (x : U) (xs us : List U) → Skips i xs us → Skips (suc i) (x ∷ xs) us
  skips_more zero x xs us e = (x, ap (λ l. x ∷ l) e)
  skips_more (suc i) x xs us (v, s) = (v, skips_more i x xs (v ∷ us) s)

  all_skipped : (us : List U) → Skips (length us) us []
  all_skipped [] = refl
  all_skipped (u ∷ us) = skips_more (length us) u us [] (all_skipped us)

  -- the item with an index
  pub skips_to : (us : List U) (i : ℕ) (u : U) → slice_get us i ≡ Some u → (rest : List U) × Skips i us (u ∷ rest)
  skips_to [] i u e = absurd (let f : None ≡ Some u = e in cc)
  skips_to (t ∷ us) zero u e = let same : Some t ≡ Some u = e in let is : t ≡ u = cc in (us, ap (λ x. x ∷ us) is)
  skips_to (t ∷ us) (suc i) u e = let r = skips_to us i u e in (r.0, skips_more i t us (u ∷ r.0) r.1)

-- the list that the value has is there
module _ {V U : Type 0} {R : Reading V} (G : Format U) (law : IsLawful G) (list : Route R (each G).Reads) (k : ℕ) (b : List ℕ) (v : V) (reads : R k b v) (items : List U) (is : list.IsPart v items) where
  list_there : (l : ℕ) × (z : List ℕ) × (n : ℕ) × Walk list.steps 0 b l z × FollowsMany (length items) l z n []
  list_there =
      let a = list.found k v items is 0 b reads in
      let r = follows_many G law k (length items) a.0 a.1 items [] (all_skipped items) a.3 in
      (a.0, a.1, r.0, a.2, subst (λ t. FollowsMany (length items) a.0 a.1 r.0 t) r.3 r.2)

  pub has_list : HasNoList list.steps 0 b → ⊥
  has_list none = let t = list_there in none t.0 t.1 t.3 (length items) t.2 t.4

  pub as_many : {A : Type 0} (Q : ℕ → List ℕ → A → Type 0) (rows : List A) → AreRows Q list.steps 0 b rows → length rows ≡ length items
  as_many Q rows a =
      let c = a.count in
      let t = list_there in
      let e = one_walk list.steps 0 b c.0 t.0 c.1 t.1 c.3 t.3 in
      one_count (length rows) (length items) t.0 t.1 c.2 t.2 (subst (λ j. FollowsMany (length rows) j t.1 c.2 []) e.0 (subst (λ u. FollowsMany (length rows) c.0 u c.2 []) e.1 c.4)) t.4

module _ {A : Type 0} (P : ℕ → A → Type 0) where
  pub none_yet : AllAt P []
  none_yet i h d = absurd (omega (arith, h))

  -- one more item, at the end
  pub one_more : (xs : List A) (x : A) → AllAt P xs → P (length xs) x → AllAt P (xs ++ x ∷ [])
  one_more xs x all last i h d = ⊎_elim
      (λ (less : i < length xs). subst (P i) (sym (get_or-append xs (x ∷ []) d i less)) (all i less d))
      (λ (more : length xs ≤ i).
      (let e : length xs ≡ i = omega (arith, h, more, length-append xs (x ∷ [])) in
      subst (λ j. P j (get_or (xs ++ x ∷ []) j d)) e (subst (P (length xs)) (sym (get_or-append_seam xs x [] d)) last)))
      (cases_lt i (length xs))

-- the ranges of all items of a list that a value has, each in its place
module _ {V W : Type 0} {R : Reading V} (F : Format W) (law : IsLawful F) (list : Route R (each F).Reads) (b : List ℕ) (v : V) (items : List W) where
  pub no_items : items ≡ [] → (ranges : List (Range ℕ)) → ranges ≡ [] → AreItemsOf F law list b v items ranges
  no_items e ranges none = record { each = λ i less d w _. absurd (omega (arith, less, ap length none)); count = ap length none ∙ sym (ap length e) }

  module _ (reads : R 64 b v) (is : list.IsPart v items) where
    items_are : (ranges : List (Range ℕ)) → AreRows IsElementRange list.steps 0 b ranges → AreItemsOf F law list b v items ranges
    items_are ranges a = record {
      each = λ i less d w e.
          (let at = a.each i less d in
          let r = get_or ranges i d in
          let leads : LeadsTo ((list.steps ++ Nth i ∷ []) ++ Element ∷ []) 0 b r.start r.end = leads_after (list.steps ++ Nth i ∷ []) (Element ∷ []) 0 b at.0 at.1 at.2 r.start r.end at.3 in
          range_is (list ▸ entry F law i) 64 b v reads w (items, is, skips_to items i w e) r.start r.end (subst (λ steps. LeadsTo steps 0 b r.start r.end) (append_assoc list.steps (Nth i ∷ []) (Element ∷ [])) leads));
      count = as_many F law list 64 b v reads items is IsElementRange ranges a;
    }

    -- what rows of ranges say of them, or that memory was refused
    pub items_found : {A : Type 0} (ranges : A → List (Range ℕ)) (r : Result A Error) → MatchResult r (λ a. AreRows IsElementRange list.steps 0 b (ranges a)) (λ e. e ≢ Memory → HasNoList list.steps 0 b) → MatchResult r (λ a. AreItemsOf F law list b v items (ranges a)) (λ e. e ≡ Memory)
    items_found ranges (Ok a) h = items_are (ranges a) h
    items_found ranges (Err e) h = only_memory e (λ other. has_list F law list 64 b v reads items is (h other))
