-- Whole inputs and encodings.
use Rattle.std.specs.Prelude.{◌≡◌, ◌≢◌, ◌↔◌, ℕ, ◌+◌, ◌*◌, ◌≤◌, List, ◌++◌, length, Result, MatchResult}
use Rattle.asn1_core_element.specs.Element.{IsElement}
use Rattle.asn1_core_element.specs.declared.error.Error.{Error}
use Rattle.asn1_core_element.specs.declared.error.Error.TheVariants.{TooLong, Memory}
use Rattle.asn1_core_writers.specs.Texts.{IsWriteError}
use Rattle.asn1_core_format.specs.Format.{Format}

-- v is the value of the whole input, and the only one
pub record IsValueOf {V : Type 0} (F : Format V) (k : ℕ) (b : List ℕ) (v : V) : Type 0 where
  pub reads : F.Reads k b v
  pub only : (w : V) → F.Reads k b w → w ≡ v
  pub well_formed : F.IsWellFormed k v
  -- the input is one element, with one of the type's tags
  pub element : IsElement F.IsTag b

-- why an input gives no value: it has none, or memory was refused
pub record HasNoValue {V : Type 0} (F : Format V) (k : ℕ) (b : List ℕ) (e : Error) : Type 0 where
  pub kind : e ≢ TooLong
  pub none : e ≢ Memory → (v : V) → F.Reads k b v → ⊥

abbrev pub AnswersInput : {T V : Type 0} → (T → V) → Format V → ℕ → List ℕ → Result T Error → Type 0
AnswersInput value F k b r = MatchResult r (λ x. IsValueOf F k b (value x)) (λ e. HasNoValue F k b e)

-- the same, with a place in an input that gives no value
abbrev pub LocatesInput : {T V : Type 0} → (T → V) → Format V → ℕ → List ℕ → Result T (Error × ℕ) → Type 0
LocatesInput value F k b r = MatchResult r (λ x. IsValueOf F k b (value x)) (λ e. HasNoValue F k b e.0 × (e.1 ≤ length b))

-- how many headers were read of an input that gives no value: at most one more than half the bytes; and where it begins
-- with an encoding, at least the fewest elements of the value's encodings
pub record HeadersOfRefused {V : Type 0} (F : Format V) (k : ℕ) (b : List ℕ) (e : Error) (n : ℕ) : Type 0 where
  pub at_most : 2 * n ≤ length b + 2
  pub at_least : e ≢ Memory → (taken rest : List ℕ) (v : V) → b ≡ taken ++ rest → F.Reads k taken v → F.least v ≤ n

-- how many headers were read
abbrev pub HeadersOfInput : {T V : Type 0} → (T → V) → Format V → ℕ → List ℕ → Result T Error → ℕ → Type 0
HeadersOfInput value F k b r n = MatchResult r (λ x. (2 * n ≤ length b) × (F.least (value x) ≤ n)) (λ e. HeadersOfRefused F k b e n)

-- the vector is the encoding
abbrev pub Written : {A : Type 0} → (A → List ℕ) → List ℕ → Result A Error → Type 0
Written items text r = MatchResult r (λ a. items a ≡ text) (λ e. IsWriteError text e)

-- what the encoding t of v is to inputs, at k levels
pub record IsRewriting {V : Type 0} (F : Format V) (k : ℕ) (v : V) (t : List ℕ) : Type 0 where
  -- an input of v comes back exactly where it is canonical (normal)
  pub back : (b : List ℕ) → F.Reads k b v → (t ≡ b) ↔ F.IsNormal k b
  -- the encoding of a well-formed value is normal, and reads as its normal value
  pub normal : F.IsWellFormed k v → F.IsNormal k t
  pub reads : F.IsWellFormed k v → F.Reads k t (F.normal v)
