-- A choice by object identifier, which says what follows it. The alternatives form a chain, each for one object
-- identifier that no alternative before it has.
use Rattle.std.specs.Prelude.{◌≡◌, ◌≢◌, ◌⊎◌, ℕ, ◌+◌, List, ◌++◌}
use Rattle.asn1_core_element.specs.Element.{element}
use Rattle.asn1_core_format.specs.Format.{Format, IsLawfulComponents}
use Rattle.asn1_core_format.specs.Components.{part}
use Rattle.asn1_core_format.specs.Leaf.{leaf, verbatim}
use Rattle.asn1_core_format.specs.Eithers.{OneOf, from_one, map_one}
use Rattle.asn1_core_format.specs.FirstTags.{one_tag}

-- contents that begin with an object identifier
pub record Choice (V : Type 0) : Type 1 where
  pub components : Format V
  pub oid_of : V → List ℕ

-- the bytes begin with this object identifier
abbrev pub Heads : List ℕ → List ℕ → Type 0
Heads o b = (c : List ℕ) × (b ≡ element 0x06 o ++ c)

-- the last alternative: every object identifier that has no alternative before
abbrev pub otherwise : {V : Type 0} → (List ℕ → Type 0) → Format V → Choice (List ℕ × V)
otherwise IsOid R = record { components = part (leaf 0x06 (verbatim IsOid)) R; oid_of = λ v. v.0 }

-- the alternative of one object identifier, and the alternatives of the others
abbrev pub known : {V W : Type 0} → List ℕ → Format V → Choice W → Choice (V ⊎ W)
known {V} {W} o R C = record {
  components = record {
    text = from_one (λ v. element 0x06 o ++ R.text v) C.components.text;
    IsWellFormed = λ k. OneOf (R.IsWellFormed k) (λ w. C.components.IsWellFormed k w × (C.oid_of w ≢ o));
    Reads = λ k b. OneOf (λ v. (c : List ℕ) × (b ≡ element 0x06 o ++ c) × R.Reads k c v) (λ w. C.components.Reads k b w × (C.oid_of w ≢ o));
    IsNormal = λ k b. ((c : List ℕ) × (b ≡ element 0x06 o ++ c) × R.IsNormal k c) ⊎ (C.components.IsNormal k b × (Heads o b → ⊥));
    normal = map_one R.normal C.components.normal;
    IsTag = λ t. t ≡ 0x06;
    first = one_tag 0x06;
    least = from_one (λ v. 1 + R.least v) C.components.least;
  };
  oid_of = from_one (λ _. o) C.oid_of;
}

pub record IsLawfulChoice {V : Type 0} (C : Choice V) : Type 0 where
  pub components : IsLawfulComponents C.components
  pub heads : (k : ℕ) (b : List ℕ) (v : V) → C.components.Reads k b v → Heads (C.oid_of v) b
  pub same_oid : (v : V) → C.oid_of (C.components.normal v) ≡ C.oid_of v
