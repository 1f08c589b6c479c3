-- A type with more than one spelling of a value: reading forgets which it was, and writing chooses one.
use Rattle.std.specs.Prelude.{◌≡◌, ◌↔◌, ℕ, ◌≤◌, List}
use Rattle.asn1_core_format.specs.Format.{Format}

-- The values V of what P spells as A: `read` is the value of a spelling, `written` how a value is spelled, `normal`
-- what it is read again as, IsProper which values are so read, and IsWritten, over bytes alone, which encodings
-- are spelled as `written` spells.
pub record Loosening (A V : Type 0) : Type 1 where
  pub read : A → V
  pub written : V → A
  pub normal : V → V
  pub IsProper : V → Type 0
  pub IsWritten : List ℕ → Type 0
  pub least : V → ℕ

pub record IsLoosening {A V : Type 0} (P : Format A) (L : Loosening A V) : Type 0 where
  pub proper : (a : A) → L.IsProper (L.read a)
  pub preserved : (k : ℕ) (a : A) → P.IsWellFormed k a → P.IsWellFormed k (L.written (L.read a))
  pub chosen : (k : ℕ) (b : List ℕ) (a : A) → P.Reads k b a → (L.IsWritten b ↔ (L.written (L.read a) ≡ a))
  pub settled : (k : ℕ) (v : V) → P.IsWellFormed k (L.written v) → L.IsProper v → L.written (L.read (P.normal (L.written v))) ≡ P.normal (L.written v)
  pub reread : (k : ℕ) (v : V) → P.IsWellFormed k (L.written v) → L.IsProper v → L.read (P.normal (L.written v)) ≡ L.normal v
  -- no spelling of a value has fewer elements than its least, and one has so many
  pub fewer : (a : A) → L.least (L.read a) ≤ P.least a
  pub reached : (k : ℕ) (v : V) → P.IsWellFormed k (L.written v) → L.IsProper v → (a : A) × P.IsWellFormed k a × (L.read a ≡ v) × (P.least a ≡ L.least v)

abbrev pub loosened : {A V : Type 0} → Format A → Loosening A V → Format V
loosened {A} {V} P L = record {
  text = λ v. P.text (L.written v);
  IsWellFormed = λ k v. P.IsWellFormed k (L.written v) × L.IsProper v;
  Reads = λ k b v. (a : A) × P.Reads k b a × (L.read a ≡ v);
  IsNormal = λ k b. P.IsNormal k b × L.IsWritten b;
  normal = L.normal;
  IsTag = P.IsTag;
  first = P.first;
  least = L.least;
}
