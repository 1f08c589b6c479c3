-- ANY DEFINED BY: an object identifier, which is kept, and after it, to the end of the contents, what it picks.
use Rattle.std.specs.Prelude.{◌≡◌, ℕ, ◌+◌, List, ◌++◌}
use Rattle.asn1_core.specs.Der.{no_tag, one_tag, element, Format, IsOid}

-- how the values V are encoded, whatever the object identifier is, and the body that each object identifier picks
pub record DefinedBy (V : Type 0) : Type 1 where
  pub text : V → List ℕ
  pub components : List ℕ → Format V

abbrev pub any_defined_by : {V : Type 0} → DefinedBy V → Format (List ℕ × V)
any_defined_by P = record {
  text = λ p. element 0x06 p.0 ++ P.text p.1;
  IsWellFormed = λ k p. IsOid p.0 × (P.components p.0).IsWellFormed k p.1;
  Reads = λ k b p. (c : List ℕ) × (b ≡ element 0x06 p.0 ++ c) × IsOid p.0 × (P.components p.0).Reads k c p.1;
  IsNormal = λ k b. (o : List ℕ) × (c : List ℕ) × (b ≡ element 0x06 o ++ c) × IsOid o × (P.components o).IsNormal k c;
  normal = λ p. (p.0, (P.components p.0).normal p.1);
  IsTag = λ t. t ≡ 0x06;
  first = one_tag 0x06;
  least = λ p. 1 + (P.components p.0).least p.1;
}

-- One alternative of a type V: `put` makes a V of its value. Values of other alternatives may have the same encoding:
-- `brought` converts these into values of this one, and leaves all others as they are.
pub record Alternative (A V : Type 0) : Type 0 where
  pub put : A → V
  pub brought : V → V

-- what F reads, as values of one alternative of the type that W encodes
abbrev pub alternative : {A V : Type 0} → Format V → Alternative A V → Format A → Format V
alternative {A} {V} W m F = record {
  text = W.text;
  IsWellFormed = λ k v. (a : A) × (m.put a ≡ m.brought v) × F.IsWellFormed k a;
  Reads = λ k b v. (a : A) × (m.put a ≡ v) × F.Reads k b a;
  IsNormal = F.IsNormal;
  normal = λ v. W.normal (m.brought v);
  IsTag = F.IsTag;
  first = F.first;
  least = W.least;
}

-- an alternative into which no value of another is converted
abbrev pub by_itself : {A V : Type 0} → (A → V) → Alternative A V
by_itself put = record { put = put; brought = λ v. v }

-- no alternative: none of the values that W encodes is read, or well-formed
abbrev pub no_alternative : {V : Type 0} → Format V → Format V
no_alternative W = record {
  text = W.text;
  IsWellFormed = λ _ _. ⊥;
  Reads = λ _ _ _. ⊥;
  IsNormal = λ _ _. ⊥;
  normal = W.normal;
  IsTag = λ _. ⊥;
  first = no_tag;
  least = W.least;
}

-- the values of F as those of a type that only writes
abbrev pub only_written : {V : Type 0} → Format V → Format V
only_written F = record {
  text = F.text;
  IsWellFormed = F.IsWellFormed;
  Reads = λ _ _ _. ⊥;
  IsNormal = λ _ _. ⊥;
  normal = F.normal;
  IsTag = λ _. ⊥;
  first = no_tag;
  least = F.least;
}
