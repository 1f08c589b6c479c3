-- Components: what contents hold from one place to their end, in order, some of which may be absent.
use Rattle.std.specs.Prelude.{◌≡◌, ◌≢◌, ◌⊎◌, ℕ, ◌+◌, ◌*◌, ◌≤◌, false, List, [], ◌++◌, length, Option, None, Some, Result, MatchResult}
use Rattle.asn1_core_element.specs.Element.{element}
use Rattle.asn1_core_element.specs.Position.{Position}
use Rattle.asn1_core_format.specs.Format.{Format}
use Rattle.asn1_core_element.specs.declared.error.Error.{Error}
use Rattle.asn1_core_element.specs.declared.error.Error.TheVariants.{TooLong, Memory}
use Rattle.asn1_core_format.specs.FirstTags.{both_tags, no_tag, one_tag}

-- nothing more
abbrev pub nothing : Format (Unit {0})
nothing = record {
  text = λ _. [];
  IsWellFormed = λ _ _. Unit {0};
  Reads = λ _ b _. b ≡ [];
  IsNormal = λ _ b. b ≡ [];
  normal = λ v. v;
  IsTag = λ _. ⊥;
  first = no_tag;
  least = λ _. 0;
}

-- an encoding of F, and then one of R
abbrev pub part : {V W : Type 0} → Format V → Format W → Format (V × W)
part {V} {W} F R = record {
  text = λ p. F.text p.0 ++ R.text p.1;
  IsWellFormed = λ k p. F.IsWellFormed k p.0 × R.IsWellFormed k p.1;
  Reads = λ k b p. (a : List ℕ) × (c : List ℕ) × (b ≡ a ++ c) × F.Reads k a p.0 × R.Reads k c p.1;
  IsNormal = λ k b. (a : List ℕ) × (c : List ℕ) × (b ≡ a ++ c) × F.IsNormal k a × R.IsNormal k c;
  normal = λ p. (F.normal p.0, R.normal p.1);
  IsTag = F.IsTag;
  first = F.first;
  least = λ p. F.least p.0 + R.least p.1;
}

abbrev pub text_if : {V : Type 0} → (V → List ℕ) → Option V → List ℕ
text_if text None = []
text_if text (Some v) = text v

abbrev pub AllIf : {V : Type 0} → (V → Type 0) → Option V → Type 0
AllIf P None = Unit {0}
AllIf P (Some v) = P v

abbrev pub normal_if : {V : Type 0} → (V → V) → Option V → Option V
normal_if f None = None
normal_if f (Some v) = Some (f v)

abbrev pub least_if : {V : Type 0} → (V → ℕ) → Option V → ℕ
least_if f None = 0
least_if f (Some v) = f v

-- P of the rest where the part is absent, and Q of both where it is there
abbrev pub AbsentOr : {V W : Type 0} → (W → Type 0) → (V × W → Type 0) → Option V × W → Type 0
AbsentOr P Q (None, w) = P w
AbsentOr P Q (Some v, w) = Q (v, w)

-- An encoding of R, or one of F and then one of R. Nothing here decides between the two; the laws do, by first tags.
abbrev pub optional : {V W : Type 0} → Format V → Format W → Format (Option V × W)
optional {V} {W} F R = record {
  text = λ p. text_if F.text p.0 ++ R.text p.1;
  IsWellFormed = λ k p. AllIf (F.IsWellFormed k) p.0 × R.IsWellFormed k p.1;
  Reads = λ k b p. AbsentOr (R.Reads k b) ((part F R).Reads k b) p;
  IsNormal = λ k b. R.IsNormal k b ⊎ (part F R).IsNormal k b;
  normal = λ p. (normal_if F.normal p.0, R.normal p.1);
  IsTag = λ t. F.IsTag t ⊎ R.IsTag t;
  first = both_tags F.first R.first;
  least = λ p. least_if F.least p.0 + R.least p.1;
}

-- an encoding of R in an element with that tag: a SEQUENCE, a SET, an EXPLICIT tag, an OCTET STRING around an encoding
abbrev pub within : {V : Type 0} → ℕ → Format V → Format V
within {V} tag R = record {
  text = λ v. element tag (R.text v);
  IsWellFormed = R.IsWellFormed;
  Reads = λ k b v. (c : List ℕ) × (b ≡ element tag c) × R.Reads k c v;
  IsNormal = λ k b. (c : List ℕ) × (b ≡ element tag c) × R.IsNormal k c;
  normal = R.normal;
  IsTag = λ t. t ≡ tag;
  first = one_tag tag;
  least = λ v. 1 + R.least v;
}

-- all that was left of the open contents was read
pub record HasReadComponents {V : Type 0} (R : Format V) (k : ℕ) (old new : Position) (v : V) : Type 0 where
  pub reads : R.Reads k old.left v
  pub done : new.left ≡ []
  pub beyond : new.beyond ≡ old.beyond
  pub end : new.end ≡ old.end
  pub refused : new.refused ≡ false
  pub at_least : old.headers + R.least v ≤ new.headers
  pub at_most : 2 * new.headers ≤ 2 * old.headers + length old.left

-- reading gave up, since memory was refused or since what was left is no encoding
pub record HasRefusedComponents {V : Type 0} (R : Format V) (k : ℕ) (old new : Position) (e : Error) : Type 0 where
  pub kind : e ≢ TooLong
  pub none : e ≢ Memory → (v : V) → R.Reads k old.left v → ⊥
  pub counts : old.headers ≤ new.headers
  pub at_most : 2 * new.headers ≤ 2 * old.headers + length old.left + 2

abbrev pub GivesComponents : {T V : Type 0} → (T → V) → Format V → ℕ → Position → Position → Result T Error → Type 0
GivesComponents value R k old new r = MatchResult r (λ x. HasReadComponents R k old new (value x)) (λ e. HasRefusedComponents R k old new e)

abbrev pub option_value : {T V : Type 0} → (T → V) → Option T → Option V
option_value f None = None
option_value f (Some x) = Some (f x)
