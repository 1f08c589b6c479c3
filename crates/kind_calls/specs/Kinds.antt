-- What the calls from C say of inputs of all kinds.
use Rattle.std.specs.Prelude.{◌≡◌, ◌≢◌, ◌≤◌, ◌<◌, ◌⊎◌, ◌^◌, ℕ, min, List, length, get_or}
use Rattle.asn1_core_writers.specs.Comparing.{IsLongestEnd}
use Rattle.der_engine.specs.Engine.{Rewriting}
use Rattle.x509_containers.specs.Kinds.{kinds, rewriting_at, word_of}
use Rattle.x509_containers.specs.declared.kinds.Kind.{Kind}
use Rattle.call_values.specs.Statuses.{Reasons, SaysWhy, Writes}
use Rattle.call_values.specs.declared.status.TheConstants.{NORMAL, LOOSE, UNKNOWN_KIND, TOO_LONG, NO_MEMORY}

-- k is the kind with that index
abbrev pub IsKindAt : ℕ → Kind → Type 0
IsKindAt index k = (index < length kinds) × (k ≡ get_or kinds index k)

-- how many levels of nesting a limit allows: 64 at most
abbrev pub levels : ℕ → ℕ
levels limit = min limit 64

-- a kind with that word, of whose inputs P holds at the limit
abbrev pub OfKind : List ℕ → ℕ → (Rewriting → Type 0) → Type 0
OfKind word limit P = (k : Kind) × (word ≡ word_of k) × P (rewriting_at k (levels limit))

-- t is the encoding of the value of b, the only one
pub record IsTextOf (K : Rewriting) (b t : List ℕ) : Type 0 where
  pub to : K.To b t
  pub only : (u : List ℕ) → K.To b u → u ≡ t

-- why there is no encoding of an input b of the kind with that word
abbrev pub without_text : List ℕ → ℕ → List ℕ → Reasons
without_text word limit b = record {
  IsUnknown = (k : Kind) → word ≢ word_of k;
  HasNone = OfKind word limit (λ K. (t : List ℕ) → K.To b t → ⊥);
  IsLong = OfKind word limit (λ K. (t : List ℕ) × K.To b t × (2 ^ 64 ≤ length t));
  TakesMemory = Unit {0};
  LacksRange = ⊥;
  IsAbsent = ⊥;
}

-- what der_check_word_limited answers of the input b
pub record ChecksWord (word : List ℕ) (limit : ℕ) (b : List ℕ) (len place status : ℕ) : Type 0 where
  -- DER_NORMAL: b is the encoding of its value
  pub normal : status ≡ NORMAL → OfKind word limit (λ K. IsTextOf K b b × K.IsNormal b × (len ≡ length b))
  -- DER_LOOSE: another is, and from the place on both have the longest end that they have in common
  pub loose : status ≡ LOOSE → OfKind word limit (λ K. (¬ K.IsNormal b) × ((t : List ℕ) × IsTextOf K b t × (len ≡ length t) × IsLongestEnd t b place))
  pub why : SaysWhy (without_text word limit b) status
  pub no_len : UNKNOWN_KIND ≤ status → len ≡ 0
  pub inside : place ≤ length b
  -- a place is said of the input where it is loose or refused
  pub no_place : (status ≡ NORMAL) ⊎ ((status ≡ UNKNOWN_KIND) ⊎ (status ≡ TOO_LONG)) → place ≡ 0
  pub range : status ≤ NO_MEMORY

-- what der_rewrite_word_limited answers of the input b and a buffer
abbrev pub RewritesWord : List ℕ → ℕ → List ℕ → List ℕ → List ℕ → ℕ → ℕ → Type 0
RewritesWord word limit b = Writes (λ t. OfKind word limit (λ K. IsTextOf K b t)) (without_text word limit b)

-- what der_kind_word answers of the index of a kind and a buffer: at DER_UNKNOWN_KIND there are fewer kinds
abbrev pub NamesKind : ℕ → List ℕ → List ℕ → ℕ → ℕ → Type 0
NamesKind index = Writes
    (λ word. (k : Kind) × IsKindAt index k × (word ≡ word_of k))
    (record { IsUnknown = length kinds ≤ index; HasNone = ⊥; IsLong = ⊥; TakesMemory = ⊥; LacksRange = ⊥; IsAbsent = ⊥ })
