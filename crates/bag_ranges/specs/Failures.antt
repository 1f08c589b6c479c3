-- Why nothing is found inside of a store, and what a call adds to the rows.
use Rattle.std.specs.Prelude.{◌≡◌, ◌≢◌, ℕ, min, List, ◌++◌, Result, MatchResult}
use Rattle.asn1_core_element.specs.declared.error.Error.TheVariants.{Malformed, Memory}
use Rattle.input_ranges.specs.declared.ranges.Refusal.{Refusal}
use Rattle.input_ranges.specs.declared.ranges.Refusal.TheVariants.{Refused, Part, NoRange}
use Rattle.asn1_core.specs.Der.{octet_string}
use Rattle.pkcs12_bags.specs.Oids.{oid}
use Rattle.pkcs12_bags.specs.declared.parts.oids.TheConstants.{FRIENDLY_NAME, LOCAL_KEY_ID}
use Rattle.x509_base.specs.AttributesByOid.{with_oid, IsOnlyOf}
use Rattle.x509_pkcs12.specs.RawBags.{attributes_of}
use Rattle.x509_pkcs12.specs.Utf16.{utf16_string}
use Rattle.bag_ranges.specs.Bags.{BagValue, IsBagAt, Rows}
use Rattle.bag_ranges.specs.declared.ranges.BagRanges.{BagRanges}

-- unless memory was refused, there is no such thing
pub record HasNone {A : Type 0} (Q : A → Type 0) (e : Refusal) : Type 0 where
  pub none : e ≢ Refused Memory 0 → (x : A) → Q x → ⊥

-- such a thing, or there is none
abbrev pub Finds : {A : Type 0} → (A → Type 0) → Result A Refusal → Type 0
Finds Q r = MatchResult r (λ x. Q x) (λ e. HasNone Q e)

-- such rows follow the old ones
pub record Adds (Q : List BagRanges → Type 0) (old new : List BagRanges) : Type 0 where
  pub added : List BagRanges
  pub is : new ≡ old ++ added
  pub all : Q added

-- such rows were added, or there are none
abbrev pub PushesSome : {A : Type 0} → (List BagRanges → Type 0) → List BagRanges → List BagRanges → Result A Refusal → Type 0
PushesSome Q old new r = MatchResult r (λ _. Adds Q old new) (λ e. HasNone Q e)

-- it has no rows, wherever it is in the input
abbrev pub HasNoRows : Rows → Refusal → Type 0
HasNoRows Q e = HasNone (λ (p : ℕ × ℕ × List BagRanges). Q p.0 p.1 p.2) e

-- a bag has no row, wherever it is
abbrev pub HasNoRow : ℕ → List ℕ → BagValue → Refusal → Type 0
HasNoRow below b bag e = HasNone (λ (p : ℕ × ℕ × BagRanges). IsBagAt below b p.0 p.1 bag p.2) e

-- it has several names, say, or one that isn't as it has to be
abbrev pub HasNoName : BagValue → Refusal → Type 0
HasNoName bag e = HasNone (λ name. IsOnlyOf utf16_string.format (with_oid (oid FRIENDLY_NAME) (attributes_of bag)) name) e

abbrev pub HasNoKeyId : BagValue → Refusal → Type 0
HasNoKeyId bag e = HasNone (λ id. IsOnlyOf octet_string (with_oid (oid LOCAL_KEY_ID) (attributes_of bag)) id) e

-- its rows were added, where it is from m to n; or it has none
abbrev pub Pushes : {A : Type 0} → Rows → ℕ → ℕ → List BagRanges → List BagRanges → Result A Refusal → Type 0
Pushes Q m n old new r = MatchResult r (λ _. Adds (Q m n) old new) (λ e. HasNoRows Q e)

-- the refusal of a store, with a place in the input; no part of a store lacks a range
abbrev pub in_input : ℕ → Refusal → Refusal
in_input size (Refused e place) = Refused Memory 0
in_input size (Part e place) = Part e (min place size)
in_input size NoRange = Part Malformed 0
