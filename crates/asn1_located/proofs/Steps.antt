-- What the front of some octets says of the steps from there.
use Rattle.std.specs.Prelude.{◌≡◌, ◌↔◌, ◌≤◌, ◌<◌, ◌+◌, ◌-◌, ℕ, zero, suc, Bool, false, IsTrue, List, ◌∷◌, ◌++◌, length, take, drop, get_or, slice_range, Option, None, Some}
use Rattle.std.proofs.lemmas.Slice.{between_to_end}
use Rattle.std.proofs.Common.{refl, sym, ap, ◌∙◌, subst, inl, inr, arith, length-append, append_assoc, true≢false, take-append-drop, drop-cons, ⊎_elim}
use Rattle.std.proofs.lemmas.Bool.{cases_lt}
use Rattle.std.proofs.lemmas.List.{length-take, length-drop}
use Rattle.std.proofs.Math.ListN.{drop_of_length-le}
use Rattle.asn1_core_element.specs.Element.{HasNoFront, IsElement, IsFront, element, head}
use Rattle.asn1_core_element.specs.laws.ElementLaws.{same_parts}
use Rattle.asn1_located.specs.Places.{Begins, Contains, Finds, Follows, FollowsMany, HasFirst, Leads, Stays, Walk}
use Rattle.asn1_located.specs.laws.WalkLaws.{fits, one_many, one_step, step_lies_in}
use Rattle.asn1_located.specs.declared.walks.Place.{Place}
use Rattle.asn1_located.specs.declared.walks.Step.{Step}
use Rattle.asn1_located.specs.declared.walks.Step.TheVariants.{Inside, Element, After, Past}

module _ (m : ℕ) (x : List ℕ) (tag n size : ℕ) (f : IsFront x tag n size) where
  abbrev contents : List ℕ
  contents = take n (drop size x)

  abbrev rest : List ℕ
  rest = drop n (drop size x)

  as_long : length contents ≡ n
  as_long = omega (arith, f.fits, length-drop size x, length-take n (drop size x))

  split : x ≡ head tag n ++ (contents ++ rest)
  split = f.header ∙ ap (λ y. head tag n ++ y) (sym (take-append-drop n (drop size x)))

  split_as : x ≡ head tag (length contents) ++ (contents ++ rest)
  split_as = split ∙ ap (λ l. head tag l ++ (contents ++ rest)) (sym as_long)

  abbrev whole : List ℕ
  whole = element tag contents

  as_whole : x ≡ whole ++ rest
  as_whole = split_as ∙ sym (append_assoc (head tag (length contents)) contents rest)

  whole_long : length whole ≡ size + n
  whole_long = omega (arith, length-append (head tag (length contents)) contents, as_long, f.size, ap (λ l. length (head tag l)) as_long)

  cut : (take (size + n) x ≡ whole) × (drop (size + n) x ≡ rest)
  cut =
      let t : length (take (size + n) x) ≡ length whole = omega (arith, f.fits, whole_long, length-take (size + n) x) in
      same_parts (take (size + n) x) whole (drop (size + n) x) rest t (take-append-drop (size + n) x ∙ as_whole)

  is_whole : IsElement (λ _. Unit {0}) whole
  is_whole = record { tag = tag; contents = contents; is_tag = f.is_tag; is = refl; allowed = tt }

  pub is_inside : (o : ℕ) (y : List ℕ) → o ≡ m + size → y ≡ slice_range x size (size + n) → Contains m x o y × (o + length y ≤ m + length x)
  is_inside o y p q =
      let same : y ≡ contents = q ∙ ap (λ l. take l (drop size x)) (let e : size + n - size ≡ n = omega arith in e) in
      let c : Contains m x o contents = record { tag = tag; rest = rest; is_tag = f.is_tag; split = split_as; place = p ∙ ap (λ l. m + l) (sym f.size ∙ ap (λ l. length (head tag l)) (sym as_long)) } in
      let d = subst (Contains m x o) (sym same) c in
      (d, fits (step_lies_in Inside m x o y d))

  pub is_element : (o : ℕ) (y : List ℕ) → o ≡ m → y ≡ take (size + n) x → Begins m x o y × (o + length y ≤ m + length x)
  is_element o y p q =
      let b : Begins m x o whole = record { rest = rest; is = is_whole; split = as_whole; place = p } in
      let d = subst (Begins m x o) (sym (q ∙ cut.0)) b in
      (d, fits (step_lies_in Element m x o y d))

  pub is_after : (o : ℕ) (y : List ℕ) → o ≡ m + (size + n) → y ≡ slice_range x (size + n) (length x) → Follows m x o y × (o + length y ≤ m + length x)
  is_after o y p q =
      let b : Follows m x o rest = record { element = whole; is = is_whole; split = as_whole; place = p ∙ ap (λ l. m + l) (sym whole_long) } in
      let d = subst (Follows m x o) (sym (q ∙ between_to_end x (size + n) (length x) (omega arith) ∙ cut.1)) b in
      (d, fits (step_lies_in After m x o y d))

module _ (m : ℕ) (x : List ℕ) (none : HasNoFront x) (n : ℕ) (y : List ℕ) where
  pub none_inside : Contains m x n y → ⊥
  none_inside c = none c.tag y c.rest c.is_tag (c.split ∙ sym (append_assoc (head c.tag (length y)) y c.rest))

  pub no_element : Begins m x n y → ⊥
  no_element b = none b.is.tag b.is.contents b.rest b.is.is_tag (b.split ∙ ap (λ e. e ++ b.rest) b.is.is)

  pub none_after : Follows m x n y → ⊥
  none_after f = none f.is.tag f.is.contents y f.is.is_tag (f.split ∙ ap (λ e. e ++ y) f.is.is)

-- no more elements follow where none follows
pub many_none : (count i m : ℕ) (x : List ℕ) (l : ℕ) (z : List ℕ) → i < count → FollowsMany i m x l z → ((n : ℕ) (y : List ℕ) → Follows l z n y → ⊥) → (n : ℕ) (y : List ℕ) → FollowsMany count m x n y → ⊥
many_none zero i m x l z h f none n y g = omega (arith, h)
many_none (suc c) i m x l z h f none n y (k, u, g, a) = ⊎_elim
    (λ (less : i < c). many_none c i m x l z less f none k u g)
    (λ (more : c ≤ i).
    (let e : i ≡ c = omega (arith, h, more) in
    let o = one_many c m x l k z u (subst (λ j. FollowsMany j m x l z) e f) g in
    none n y (subst (λ j. Follows j z n y) (sym o.0) (subst (λ w. Follows k w n y) (sym o.1) a))))
    (cases_lt i c)

pub many_more : (i j m : ℕ) (x : List ℕ) (l : ℕ) (z : List ℕ) (n : ℕ) (y : List ℕ) → j ≡ suc i → FollowsMany i m x l z → Follows l z n y → FollowsMany j m x n y
many_more i j m x l z n y e f a = subst (λ c. FollowsMany c m x n y) (sym e) (l, z, f, a)

-- the steps that are left lead from l where all lead from m
abbrev pub LeavesTo : List Step → ℕ → List ℕ → List Step → ℕ → List ℕ → Type 0
LeavesTo steps m x rest l z = (n : ℕ) (y : List ℕ) → Walk rest l z n y ↔ Walk steps m x n y

module _ (steps : List Step) (m : ℕ) (x : List ℕ) (s : Step) (left rest : List Step) (l : ℕ) (z : List ℕ) (e : left ≡ s ∷ rest) (inv : LeavesTo steps m x left l z) where
  open_step : (n : ℕ) (y : List ℕ) → Walk steps m x n y → Walk (s ∷ rest) l z n y
  open_step n y w = subst (λ r. Walk r l z n y) e ((inv n y).1 w)

  pub walk_none : ((n : ℕ) (y : List ℕ) → Leads s l z n y → ⊥) → (n : ℕ) (y : List ℕ) → Walk steps m x n y → ⊥
  walk_none none n y w = let a = open_step n y w in none a.0 a.1 a.2

  pub walk_more : (k : ℕ) (u : List ℕ) → Leads s l z k u → LeavesTo steps m x rest k u
  walk_more k u lead n y = (
    λ w. (inv n y).0 (subst (λ r. Walk r l z n y) (sym e) (k, u, lead, w)),
    λ w.
        (let a = open_step n y w in
        let o = one_step s l z a.0 k a.1 u a.2 lead in
        subst (λ j. Walk rest j u n y) o.0 (subst (λ v. Walk rest a.0 v n y) o.1 a.3)),
  )

pub next_step : (steps : List Step) (i : ℕ) (d : Step) → i < length steps → drop i steps ≡ get_or steps i d ∷ drop (i + 1) steps
next_step steps i d h = let e : suc i ≡ i + 1 = omega arith in drop-cons steps i d h ∙ ap (λ j. get_or steps i d ∷ drop j steps) e

pub walk_start : (steps : List Step) (m : ℕ) (x : List ℕ) → LeavesTo steps m x (drop 0 steps) m x
walk_start steps m x n y = (λ w. w, λ w. w)

pub walk_end : (steps : List Step) (m : ℕ) (x : List ℕ) (i l : ℕ) (z : List ℕ) → length steps ≤ i → LeavesTo steps m x (drop i steps) l z → Walk steps m x l z
walk_end steps m x i l z h inv = (inv l z).0 (subst (λ r. Walk r l z l z) (sym (drop_of_length-le steps h)) (refl, refl))

pub past_there : (m : ℕ) (x : List ℕ) (tag : ℕ) (r : Option Place) → HasFirst tag x → Finds (λ n y. Follows m x n y) m x r → Finds (λ n y. Leads (Past tag) m x n y) m x r
past_there m x tag None h f = λ n y p. ⊎_elim (λ (a : HasFirst tag x × Follows m x n y). f n y a.1) (λ (a : (HasFirst tag x → ⊥) × Stays m x n y). a.0 h) p
past_there m x tag (Some p) h f = (inl (h, f.0), f.1)

pub past_absent : (m : ℕ) (x : List ℕ) (tag : ℕ) → (HasFirst tag x → ⊥) → Leads (Past tag) m x m x × (m + length x ≤ m + length x)
past_absent m x tag h = (inr (h, (refl, refl)), omega arith)

pub not_first : (t : Bool) (P : Type 0) → (IsTrue t ↔ P) → false ≡ t → P → ⊥
not_first t P is f p = true≢false (sym (is.1 p) ∙ sym f)
