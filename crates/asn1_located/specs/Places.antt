-- Where a part of a value is in the input that was read. A walk leads over the headers of the input and mentions no type; a
-- route says which steps lead to which part of a value. Octets x that begin at m of the input are given as m and x.
use Rattle.std.specs.Prelude.{◌≡◌, ◌⊎◌, ◌≤◌, ◌+◌, ℕ, zero, suc, List, [], ◌∷◌, ◌++◌, length, Option, IsSomeAnd, MatchOption, slice_range}
use Rattle.asn1_core_element.specs.Element.{IsElement, IsTagByte, head}
use Rattle.asn1_located.specs.declared.walks.Place.{Place}
use Rattle.asn1_located.specs.declared.walks.Step.{Step}
use Rattle.asn1_located.specs.declared.walks.Step.TheVariants.{Inside, Element, After, Past, Nth}

-- x is one element and then y
pub record Follows (m : ℕ) (x : List ℕ) (n : ℕ) (y : List ℕ) : Type 0 where
  pub element : List ℕ
  pub is : IsElement (λ _. Unit {0}) element
  pub split : x ≡ element ++ y
  pub place : n ≡ m + length element

-- y are the contents of the element with which x begins
pub record Contains (m : ℕ) (x : List ℕ) (n : ℕ) (y : List ℕ) : Type 0 where
  pub tag : ℕ
  pub rest : List ℕ
  pub is_tag : IsTagByte tag
  pub split : x ≡ head tag (length y) ++ (y ++ rest)
  pub place : n ≡ m + length (head tag (length y))

-- y is the element with which x begins
pub record Begins (m : ℕ) (x : List ℕ) (n : ℕ) (y : List ℕ) : Type 0 where
  pub rest : List ℕ
  pub is : IsElement (λ _. Unit {0}) y
  pub split : x ≡ y ++ rest
  pub place : n ≡ m

abbrev pub Stays : ℕ → List ℕ → ℕ → List ℕ → Type 0
Stays m x n y = (n ≡ m) × (y ≡ x)

-- x is so many elements and then y
abbrev pub FollowsMany : ℕ → ℕ → List ℕ → ℕ → List ℕ → Type 0
FollowsMany zero m x n y = Stays m x n y
FollowsMany (suc k) m x n y = (l : ℕ) × (z : List ℕ) × FollowsMany k m x l z × Follows l z n y

-- x begins with that tag
abbrev pub HasFirst : ℕ → List ℕ → Type 0
HasFirst tag x = (rest : List ℕ) × (x ≡ tag ∷ rest)

-- the step leads from x to y
abbrev pub Leads : Step → ℕ → List ℕ → ℕ → List ℕ → Type 0
Leads Inside m x n y = Contains m x n y
Leads Element m x n y = Begins m x n y
Leads After m x n y = Follows m x n y
Leads (Past tag) m x n y = (HasFirst tag x × Follows m x n y) ⊎ ((HasFirst tag x → ⊥) × Stays m x n y)
Leads (Nth k) m x n y = FollowsMany k m x n y

-- the steps lead from x to y, one after another
abbrev pub Walk : List Step → ℕ → List ℕ → ℕ → List ℕ → Type 0
Walk [] m x n y = Stays m x n y
Walk (step ∷ steps) m x n y = (l : ℕ) × (z : List ℕ) × Leads step m x l z × Walk steps l z n y

-- what was found from x on: a place of which Q holds, which ends where x ends or before; nothing where there is none
abbrev pub Finds : (ℕ → List ℕ → Type 0) → ℕ → List ℕ → Option Place → Type 0
Finds Q m x r = MatchOption r ((n : ℕ) (y : List ℕ) → Q n y → ⊥) (λ p. Q p.start p.octets.now × (p.start + length p.octets.now ≤ m + length x))

-- the steps lead to the octets of the input b from start to end
pub record IsRangeAt (steps : List Step) (b : List ℕ) (start end : ℕ) : Type 0 where
  pub walk : Walk steps 0 b start (slice_range b start end)
  pub inside : (start ≤ end) × (end ≤ length b)

-- how a format reads values, as Format.Reads does: at so many levels, of these octets, this value
abbrev pub Reading : Type 0 → Type 1
Reading V = ℕ → List ℕ → V → Type 0

-- from encodings of a V, wherever they begin, to those of a part W of it: the steps, which part it is, and that they lead there
pub record Route {V W : Type 0} (R : Reading V) (S : Reading W) : Type 1 where
  pub steps : List Step
  pub IsPart : V → W → Type 0
  pub found : (k : ℕ) (v : V) (w : W) → IsPart v w → (m : ℕ) (x : List ℕ) → R k x v → (n : ℕ) × (y : List ℕ) × Walk steps m x n y × S k y w

-- y, which begins at n of the input b, is the part w of the input's value v: the steps lead there, and it reads as w
pub record IsPlaceOf {V W : Type 0} {R : Reading V} {S : Reading W} (route : Route R S) (k : ℕ) (b : List ℕ) (v : V) (w : W) (n : ℕ) (y : List ℕ) : Type 0 where
  pub walk : Walk route.steps 0 b n y
  pub is_part : route.IsPart v w
  pub reads : S k y w

-- where the input's value v has the part, its place was found
pub record Locates {V W : Type 0} {R : Reading V} {S : Reading W} (route : Route R S) (k : ℕ) (b : List ℕ) (v : V) (r : Option Place) : Type 0 where
  pub part : (w : W) → route.IsPart v w → IsSomeAnd r (λ p. IsPlaceOf route k b v w p.start p.octets.now)
