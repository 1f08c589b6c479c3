-- An algorithm identifier whose object identifier picks an alternative. The parameters of a known algorithm are read,
-- whatever they are, and dropped, and written as NULL; any other algorithm keeps its own, and absent ones become NULL.
use Rattle.std.specs.Prelude.{◌≡◌, ◌≢◌, ◌⊎◌, ℕ, List, [], ◌++◌, Option, Some, None, IsSome}
use Rattle.std.proofs.Common.{inl, inr}
use Rattle.asn1_core.specs.Der.{element, Format, OneOf, from_one, map_one, Loosening, loosened}
use Rattle.asn1_choices.specs.Tables.{Table}
use Rattle.x509_base.specs.Algorithms.{algorithm_identifier, null, null_written}

-- a known algorithm, or an algorithm identifier whose object identifier no alternative has
abbrev pub alternative_read : {A : Type 0} → Option A → algorithm_identifier.Value → A ⊎ algorithm_identifier.Value
alternative_read (Some a) v = inl a
alternative_read None v = inr v

-- parameters are present, and after a known object identifier they are NULL
abbrev pub HasAlternativeParameters : {A : Type 0} → Table A → List ℕ → Type 0
HasAlternativeParameters T b = (o : List ℕ) × (p : List ℕ) × (b ≡ element 0x06 o ++ p) × (p ≢ []) × (IsSome (T.alternative_of o) → p ≡ null)

abbrev pub alternative_written : {A : Type 0} → Table A → Loosening algorithm_identifier.Value (A ⊎ algorithm_identifier.Value)
alternative_written T = record {
  read = λ v. alternative_read (T.alternative_of v.0) v;
  written = from_one (λ a. (T.oid_of a, (Some null, tt))) null_written.written;
  normal = map_one (λ a. a) null_written.normal;
  IsProper = OneOf (λ _. Unit {0}) (λ v. T.alternative_of v.0 ≡ None);
  IsWritten = HasAlternativeParameters T;
  least = from_one (λ _. 1) algorithm_identifier.format.least;
}

-- the contents of the algorithm identifier
abbrev pub algorithm_choice : {A : Type 0} → Table A → Format (A ⊎ algorithm_identifier.Value)
algorithm_choice T = loosened algorithm_identifier.format (alternative_written T)
