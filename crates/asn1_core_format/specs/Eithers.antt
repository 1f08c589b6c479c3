-- A choice by tag (X.680, 29: CHOICE).
use Rattle.std.specs.Prelude.{◌⊎◌}
use Rattle.std.proofs.Common.{inl, inr}
use Rattle.asn1_core_format.specs.Format.{Format}
use Rattle.asn1_core_format.specs.FirstTags.{both_tags}

abbrev pub OneOf : {V W : Type 0} → (V → Type 0) → (W → Type 0) → V ⊎ W → Type 0
OneOf P Q (inl v) = P v
OneOf P Q (inr w) = Q w

abbrev pub from_one : {V W A : Type 0} → (V → A) → (W → A) → V ⊎ W → A
from_one f g (inl v) = f v
from_one f g (inr w) = g w

abbrev pub map_one : {V W : Type 0} → (V → V) → (W → W) → V ⊎ W → V ⊎ W
map_one f g (inl v) = inl (f v)
map_one f g (inr w) = inr (g w)

-- an encoding of F or one of G
abbrev pub either : {V W : Type 0} → Format V → Format W → Format (V ⊎ W)
either {V} {W} F G = record {
  text = from_one F.text G.text;
  IsWellFormed = λ k. OneOf (F.IsWellFormed k) (G.IsWellFormed k);
  Reads = λ k b. OneOf (F.Reads k b) (G.Reads k b);
  IsNormal = λ k b. F.IsNormal k b ⊎ G.IsNormal k b;
  normal = map_one F.normal G.normal;
  IsTag = λ t. F.IsTag t ⊎ G.IsTag t;
  first = both_tags F.first G.first;
  least = from_one F.least G.least;
}
