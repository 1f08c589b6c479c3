-- Context tags of any number that a tag of one byte can have (X.690, 8.1.2.4): 0 to 30. A greater number takes a tag of
-- several bytes, which nothing here reads or writes: a type with such a tag has no encodings and no well-formed values.
use Rattle.std.specs.Prelude.{ℕ, ◌+◌, ◌%◌, ltb, Bool, true, false}
use Rattle.asn1_core_format.specs.Format.{Format}
use Rattle.asn1_core_format.specs.Components.{within}
use Rattle.asn1_core_format.specs.Tagged.{implicit, context_tag}

abbrev pub only_if : Bool → Type 0 → Type 0
only_if true P = P
only_if false P = ⊥

-- F, where that is true, and else no encodings
abbrev pub only : {V : Type 0} → Bool → Format V → Format V
only b F = record {
  text = F.text;
  IsWellFormed = λ k v. only_if b (F.IsWellFormed k v);
  Reads = λ k x v. only_if b (F.Reads k x v);
  IsNormal = λ k x. only_if b (F.IsNormal k x);
  normal = F.normal;
  IsTag = F.IsTag;
  first = F.first;
  least = F.least;
}

-- F, where a tag of one byte can have the number: `numbered 0 F` is F
abbrev pub numbered : {V : Type 0} → ℕ → Format V → Format V
numbered n F = only (ltb n 31) F

-- `[n] EXPLICIT`: an element with that tag around the whole encoding
abbrev pub explicit_tag : ℕ → ℕ
explicit_tag n = 0xA0 + n % 31

abbrev pub explicit_context : {V : Type 0} → ℕ → Format V → Format V
explicit_context n F = numbered n (within (explicit_tag n) F)

-- `[n] IMPLICIT`: that tag in place of the type's own
abbrev pub implicit_context : {V : Type 0} → ℕ → ℕ → Format V → Format V
implicit_context n inner F = numbered n (implicit (context_tag (n % 31) inner) inner F)
