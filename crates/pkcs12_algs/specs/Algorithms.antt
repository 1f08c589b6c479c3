-- Algorithms that are known by their object identifiers, whatever their parameters are, and any other.
use Rattle.std.specs.Prelude.{◌≡◌, ◌⊎◌, ℕ, List, None}
use Rattle.std.proofs.Common.{inl, inr}
use Rattle.asn1_core.specs.Asn1.{Contents}
use Rattle.asn1_core.specs.Der.{from_one}
use Rattle.x509_base.specs.Algorithms.{algorithm_identifier}
use Rattle.x509_base.specs.AlgorithmChoices.{alternative_read, algorithm_choice}
use Rattle.x509_base.specs.laws.AlgorithmChoiceLaws.{lawful_algorithm_choice}
use Rattle.pkcs12_algs.specs.Tables.{Listed, listing}
use Rattle.pkcs12_algs.specs.laws.TableLaws.{listing_is_table}

-- a known object identifier, or an algorithm identifier with another
abbrev pub ListedOrRaw : List (List ℕ) → Type 0
ListedOrRaw oids = Listed oids ⊎ algorithm_identifier.Value

abbrev pub listed_or_raw : List (List ℕ) → Contents
listed_or_raw oids = record {
  Value = ListedOrRaw oids;
  format = algorithm_choice (listing oids);
  law = lawful_algorithm_choice (listing oids) (listing_is_table oids);
}

-- what an algorithm identifier is read as: a known algorithm, without its parameters, or any other as it is
abbrev pub from_raw : (oids : List (List ℕ)) → algorithm_identifier.Value → ListedOrRaw oids
from_raw oids v = alternative_read ((listing oids).alternative_of v.0) v

-- what an algorithm identifier without parameters is read as
abbrev pub from_oid : (oids : List (List ℕ)) → List ℕ → ListedOrRaw oids
from_oid oids o = from_raw oids (o, (None, tt))

-- the algorithm identifier of a known algorithm has no parameters
abbrev pub into_raw : (oids : List (List ℕ)) → ListedOrRaw oids → algorithm_identifier.Value
into_raw oids = from_one (λ a. (a.0, (None, tt))) (λ v. v)

-- the known algorithm with that object identifier
abbrev pub IsKnown : (oids : List (List ℕ)) → ListedOrRaw oids → List ℕ → Type 0
IsKnown oids (inl a) o = a.0 ≡ o
IsKnown oids (inr v) o = ⊥
