-- What the values of a type are written as and read from, the laws of a type that does both, and what reading answers.
use Rattle.std.specs.Prelude.{◌≡◌, ◌≢◌, ◌⊎◌, ◌↔◌, ℕ, ◌+◌, ◌*◌, ◌≤◌, Bool, false, List, [], ◌++◌, length, Result, MatchResult}
use Rattle.asn1_core_element.specs.Element.{IsElement}
use Rattle.asn1_core_element.specs.Position.{Position}
use Rattle.asn1_core_element.specs.declared.error.Error.{Error}
use Rattle.asn1_core_element.specs.declared.error.Error.TheVariants.{TooLong, Memory}
use Rattle.asn1_core_format.specs.FirstTags.{Listing, no_common}

-- What the values V of a type are written as and read from. A level is a nesting level, where the type counts it.
pub record Format (V : Type 0) : Type 1 where
  -- the encoding that is written
  pub text : V → List ℕ
  -- with nesting of at most that many levels
  pub IsWellFormed : ℕ → V → Type 0
  -- the grammar: the bytes are an encoding of the value, with at most that many levels
  pub Reads : ℕ → List ℕ → V → Type 0
  -- the canonical (normal) encodings, over bytes alone
  pub IsNormal : ℕ → List ℕ → Type 0
  -- what the encoding of a well-formed value is read as
  pub normal : V → V
  -- the first tags: the bytes that encodings begin with
  pub IsTag : ℕ → Type 0
  -- the same, as an expression
  pub first : Listing IsTag
  -- the fewest elements that the grammar gives an encoding of the value
  pub least : V → ℕ

-- whether no tag is one of both, which is computed
abbrev pub are_distinct : {V W : Type 0} → Format V → Format W → Bool
are_distinct F R = no_common F.first.tags R.first.tags

-- there are no bytes, or they begin with an element of one of these tags
abbrev pub BeginsBy : (ℕ → Type 0) → List ℕ → Type 0
BeginsBy IsTag b = (b ≡ []) ⊎ ((a : List ℕ) × (x : List ℕ) × (b ≡ a ++ x) × IsElement IsTag a)

-- the laws of a body: a format whose encodings are all that is left of some contents
pub record IsLawfulComponents {V : Type 0} (R : Format V) : Type 0 where
  pub begins : (k : ℕ) (b : List ℕ) (v : V) → R.Reads k b v → BeginsBy R.IsTag b
  -- an encoding has one value
  pub one_value : (k : ℕ) (b : List ℕ) (v w : V) → R.Reads k b v → R.Reads k b w → v ≡ w
  -- the encoding of a well-formed value reads as its normal value, and is normal
  pub text_reads : (k : ℕ) (v : V) → R.IsWellFormed k v → R.Reads k (R.text v) (R.normal v)
  pub text_normal : (k : ℕ) (v : V) → R.IsWellFormed k v → R.IsNormal k (R.text v)
  -- what is normal has a value
  pub normal_reads : (k : ℕ) (b : List ℕ) → R.IsNormal k b → (v : V) × R.Reads k b v
  -- what is read is written back as it was exactly where it is normal
  pub fixed : (k : ℕ) (b : List ℕ) (v : V) → R.Reads k b v → (R.text v ≡ b) ↔ R.IsNormal k b
  -- what is read is well-formed
  pub well_formed : (k : ℕ) (b : List ℕ) (v : V) → R.Reads k b v → R.IsWellFormed k v
  -- what is read at k levels is read at one more
  pub deeper : (k : ℕ) (b : List ℕ) (v : V) → R.Reads k b v → R.Reads (k + 1) b v

-- the laws of a type: the same, and each encoding is one element with one of the type's tags
pub record IsLawful {V : Type 0} (F : Format V) : Type 0 where
  pub components : IsLawfulComponents F
  pub element : (k : ℕ) (b : List ℕ) (v : V) → F.Reads k b v → IsElement F.IsTag b

-- reading took an encoding of v off the front, and counted its headers
pub record HasRead {V : Type 0} (F : Format V) (k : ℕ) (old new : Position) (v : V) : Type 0 where
  pub taken : List ℕ
  pub split : old.left ≡ taken ++ new.left
  pub reads : F.Reads k taken v
  pub beyond : new.beyond ≡ old.beyond
  pub end : new.end ≡ old.end
  pub refused : new.refused ≡ false
  pub at_least : old.headers + F.least v ≤ new.headers
  pub at_most : 2 * new.headers ≤ 2 * old.headers + length taken

-- reading gave up, since memory was refused or since no encoding begins the bytes that were left
pub record HasRefused {V : Type 0} (F : Format V) (k : ℕ) (old new : Position) (e : Error) : Type 0 where
  pub kind : e ≢ TooLong
  pub none : e ≢ Memory → (taken rest : List ℕ) (v : V) → old.left ≡ taken ++ rest → F.Reads k taken v → ⊥
  pub counts : old.headers ≤ new.headers
  pub at_most : 2 * new.headers ≤ 2 * old.headers + length old.left + 2

-- what reading answers
abbrev pub Gives : {T V : Type 0} → (T → V) → Format V → ℕ → Position → Position → Result T Error → Type 0
Gives value F k old new r = MatchResult r (λ x. HasRead F k old new (value x)) (λ e. HasRefused F k old new e)
