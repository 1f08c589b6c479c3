-- A part that may be left out, where absence means one of its encodings: DEFAULT parts, and sets that may be empty.
use Rattle.std.specs.Prelude.{◌≡◌, ◌≢◌, ◌⊎◌, ◌↔◌, ℕ, ◌+◌, leb, ◌&&◌, Bool, true, false, List, [], ◌++◌, Result, MatchResult}
use Rattle.std.specs.Str.{bytes_eq}
use Rattle.asn1_core_element.specs.Element.{element}
use Rattle.asn1_core_element.specs.declared.error.Error.{Error}
use Rattle.asn1_core_element.specs.declared.error.Error.TheVariants.{Memory, TooLong}
use Rattle.asn1_core_format.specs.Format.{Format}
use Rattle.asn1_core_format.specs.Components.{part}
use Rattle.asn1_core_format.specs.FirstTags.{both_tags}

abbrev pub text_unless : Bool → List ℕ → List ℕ
text_unless true b = []
text_unless false b = b

abbrev pub least_unless : Bool → ℕ → ℕ
least_unless true n = 0
least_unless false n = n

-- An encoding of F, or nothing in place of the encoding d; and then one of R. Values of which o is true are written
-- as nothing. Canonical (normal) is nothing, where d is canonical, or an encoding other than d.
abbrev pub omitted : {V W : Type 0} → (V → Bool) → List ℕ → Format V → Format W → Format (V × W)
omitted {V} {W} o d F R = record {
  text = λ p. text_unless (o p.0) (F.text p.0) ++ R.text p.1;
  IsWellFormed = λ k p. F.IsWellFormed k p.0 × R.IsWellFormed k p.1;
  Reads = λ k b p. (F.Reads k d p.0 × R.Reads k b p.1) ⊎ (part F R).Reads k b p;
  IsNormal = λ k b. (F.IsNormal k d × R.IsNormal k b) ⊎ ((a : List ℕ) × (c : List ℕ) × (b ≡ a ++ c) × F.IsNormal k a × R.IsNormal k c × (a ≢ d));
  normal = λ p. (F.normal p.0, R.normal p.1);
  IsTag = λ t. F.IsTag t ⊎ R.IsTag t;
  first = both_tags F.first R.first;
  least = λ p. least_unless (o p.0) (F.least p.0) + R.least p.1;
}

-- o is true of the values that are written as d, an element of F's, which is normal if it is an encoding
pub record IsDefault {V : Type 0} (o : V → Bool) (d : List ℕ) (F : Format V) : Type 0 where
  pub element : (tag : ℕ) × (c : List ℕ) × (d ≡ element tag c) × F.IsTag tag
  pub normal : (k : ℕ) (v : V) → F.Reads k d v → F.IsNormal k d
  pub exact : (k : ℕ) (v : V) → F.IsWellFormed k v → (o v ≡ true) ↔ (F.text v ≡ d)

-- The values that are left out: those that are written as d, which is one element with at most so many inside. A set
-- whose items have an empty encoding is written as the empty set is, but has more elements; such a set is ill-formed.
abbrev pub is_default_with : {V : Type 0} → ℕ → Format V → List ℕ → V → Bool
is_default_with inside F d v = bytes_eq (F.text v) d && leb (F.least v) (1 + inside)

-- the same, where d is one element with none inside
abbrev pub is_default : {V : Type 0} → Format V → List ℕ → V → Bool
is_default F d v = is_default_with 0 F d v

-- why there is no value that absence means: memory was refused, or the type has no such value
pub record HasNoDefault {V : Type 0} (F : Format V) (d : List ℕ) (e : Error) : Type 0 where
  pub kind : e ≢ TooLong
  pub none : e ≢ Memory → (k : ℕ) (v : V) → F.Reads k d v → ⊥

-- absence reads as the value, whatever the nesting
abbrev pub IsAbsentValue : {T V : Type 0} → (T → V) → Format V → List ℕ → Result T Error → Type 0
IsAbsentValue value F d r = MatchResult r (λ x. (k : ℕ) → F.Reads k d (value x)) (λ e. HasNoDefault F d e)
