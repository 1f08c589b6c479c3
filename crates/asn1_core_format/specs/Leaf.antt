-- Types whose encoding is one element with no element inside.
use Rattle.std.specs.Prelude.{◌≡◌, ◌≢◌, ℕ, List, Result, MatchResult}
use Rattle.asn1_core_element.specs.Element.{element}
use Rattle.asn1_core_element.specs.declared.error.Error.{Error}
use Rattle.asn1_core_element.specs.declared.error.Error.TheVariants.{TooLong, Memory}
use Rattle.asn1_core_format.specs.Format.{Format}
use Rattle.asn1_core_format.specs.FirstTags.{one_tag}

-- How the values V are spelled, each in one way, in the contents of an element. IsContents, over bytes alone, says
-- which contents spell a value.
pub record Spelling (V : Type 0) : Type 1 where
  pub spell : V → List ℕ
  pub IsValid : V → Type 0
  pub IsContents : List ℕ → Type 0

pub record IsLawfulSpelling {V : Type 0} (S : Spelling V) : Type 0 where
  pub one_value : (v w : V) → S.IsValid v → S.IsValid w → S.spell v ≡ S.spell w → v ≡ w
  pub spelled : (v : V) → S.IsValid v → S.IsContents (S.spell v)
  pub has_value : (c : List ℕ) → S.IsContents c → (v : V) × (c ≡ S.spell v) × S.IsValid v

-- an element whose contents spell the value
abbrev pub leaf : {V : Type 0} → ℕ → Spelling V → Format V
leaf {V} tag S = record {
  text = λ v. element tag (S.spell v);
  IsWellFormed = λ _ v. S.IsValid v;
  Reads = λ _ b v. (b ≡ element tag (S.spell v)) × S.IsValid v;
  IsNormal = λ _ b. (c : List ℕ) × (b ≡ element tag c) × S.IsContents c;
  normal = λ v. v;
  IsTag = λ t. t ≡ tag;
  first = one_tag tag;
  least = λ _. 1;
}

-- the contents are the value
abbrev pub verbatim : (List ℕ → Type 0) → Spelling (List ℕ)
verbatim IsContents = record { spell = λ v. v; IsValid = IsContents; IsContents = IsContents }

-- the contents spell the value
pub record IsSpelled {V : Type 0} (S : Spelling V) (c : List ℕ) (v : V) : Type 0 where
  pub is : c ≡ S.spell v
  pub valid : S.IsValid v

-- why contents give no value: they spell none, or memory was refused
pub record SpellsNone {V : Type 0} (S : Spelling V) (c : List ℕ) (e : Error) : Type 0 where
  pub kind : e ≢ TooLong
  pub none : e ≢ Memory → (v : V) → S.IsValid v → c ≡ S.spell v → ⊥

abbrev pub GivesSpelled : {T V : Type 0} → (T → V) → Spelling V → List ℕ → Result T Error → Type 0
GivesSpelled value S c r = MatchResult r (λ x. IsSpelled S c (value x)) (λ e. SpellsNone S c e)
