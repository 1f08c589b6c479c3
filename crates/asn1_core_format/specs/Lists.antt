-- Lists of items, one after another to the end of the contents.
use Rattle.std.specs.Prelude.{◌≡◌, ℕ, ◌+◌, ◌*◌, ◌≤◌, false, List, [], ◌∷◌, ◌++◌, length, map}
use Rattle.std.specs.List.{flat_map, AllByRecursion}
use Rattle.asn1_core_element.specs.Position.{Position}
use Rattle.asn1_core_format.specs.Format.{Format}

-- the bytes are an encoding of each value, one after another
abbrev pub ReadsAll : {V : Type 0} → (List ℕ → V → Type 0) → List ℕ → List V → Type 0
ReadsAll R c [] = c ≡ []
ReadsAll R c (v ∷ vs) = (a : List ℕ) × (b : List ℕ) × (c ≡ a ++ b) × R a v × ReadsAll R b vs

-- the bytes are canonical (normal) encodings, one after another
abbrev pub IsNormalAll : (List ℕ → Type 0) → List ℕ → Type 0
IsNormalAll N c = (texts : List (List ℕ)) × (c ≡ flat_map (λ t. t) texts) × AllByRecursion N texts

abbrev pub least_all : {V : Type 0} → (V → ℕ) → List V → ℕ
least_all least [] = 0
least_all least (v ∷ vs) = least v + least_all least vs

-- encodings of F, one after another, in the order of the values
abbrev pub each : {V : Type 0} → Format V → Format (List V)
each F = record {
  text = λ vs. flat_map F.text vs;
  IsWellFormed = λ k vs. AllByRecursion (F.IsWellFormed k) vs;
  Reads = λ k c vs. ReadsAll (F.Reads k) c vs;
  IsNormal = λ k c. IsNormalAll (F.IsNormal k) c;
  normal = map F.normal;
  IsTag = F.IsTag;
  first = F.first;
  least = least_all F.least;
}

-- some items were read, one after another
pub record HasReadItems {V : Type 0} (F : Format V) (k : ℕ) (old new : Position) (vs : List V) : Type 0 where
  pub taken : List ℕ
  pub split : old.left ≡ taken ++ new.left
  pub reads : ReadsAll (F.Reads k) taken vs
  pub beyond : new.beyond ≡ old.beyond
  pub end : new.end ≡ old.end
  pub refused : new.refused ≡ false
  pub at_least : old.headers + least_all F.least vs ≤ new.headers
  pub at_most : 2 * new.headers ≤ 2 * old.headers + length taken
