-- Tables of object identifiers: alternatives that all have the same body after the object identifier.
use Rattle.std.specs.Prelude.{◌≡◌, ◌⊎◌, ℕ, ◌+◌, List, ◌++◌, Option, Some, None}
use Rattle.asn1_core.specs.Der.{one_tag, element, Choice, Heads, OneOf, from_one, map_one, Format}

-- the object identifier of each alternative, and the alternative of an object identifier
pub record Table (A : Type 0) : Type 0 where
  pub oid_of : A → List ℕ
  pub alternative_of : List ℕ → Option A

-- each alternative has its own object identifier
pub record IsTable {A : Type 0} (T : Table A) : Type 0 where
  pub there : (a : A) → T.alternative_of (T.oid_of a) ≡ Some a
  pub back : (o : List ℕ) (a : A) → T.alternative_of o ≡ Some a → T.oid_of a ≡ o

-- the alternatives of a table, which all have the body R after their object identifiers, and then those of C
abbrev pub among : {A V W : Type 0} → Table A → Format V → Choice W → Choice ((A × V) ⊎ W)
among {A} {V} {W} T R C = record {
  components = record {
    text = from_one (λ p. element 0x06 (T.oid_of p.0) ++ R.text p.1) C.components.text;
    IsWellFormed = λ k. OneOf (λ p. R.IsWellFormed k p.1) (λ w. C.components.IsWellFormed k w × (T.alternative_of (C.oid_of w) ≡ None));
    Reads = λ k b. OneOf (λ p. (c : List ℕ) × (b ≡ element 0x06 (T.oid_of p.0) ++ c) × R.Reads k c p.1) (λ w. C.components.Reads k b w × (T.alternative_of (C.oid_of w) ≡ None));
    IsNormal = λ k b. ((a : A) × (c : List ℕ) × (b ≡ element 0x06 (T.oid_of a) ++ c) × R.IsNormal k c) ⊎ (C.components.IsNormal k b × ((a : A) → Heads (T.oid_of a) b → ⊥));
    normal = map_one (λ p. (p.0, R.normal p.1)) C.components.normal;
    IsTag = λ t. t ≡ 0x06;
    first = one_tag 0x06;
    least = from_one (λ p. 1 + R.least p.1) C.components.least;
  };
  oid_of = from_one (λ p. T.oid_of p.0) C.oid_of;
}
