-- Why attributes aren't encoded.
use Rattle.std.specs.Prelude.{◌≡◌, ◌<◌, ℕ, Bool, true, List, [], ◌∷◌, length, map, slice_index_or}
use Rattle.std.specs.List.{AllByRecursion, filter}
use Rattle.asn1_core_element.specs.declared.error.Error.{Error}
use Rattle.asn1_sets.proofs.FoundOnce.{stays}
use Rattle.asn1_sets.proofs.NotEncoded.{contains_item, not_all}
use Rattle.asn1_sets.specs.Encodings.{HasNoTexts}
use Rattle.attribute_writers.specs.Attributes.{ATTRIBUTE, is_formed}
use Rattle.x509_base.specs.Names.{attribute, attribute_value}
use Rattle.x509_base.specs.declared.names.Attribute.{Attribute}

-- one of those that pass a test
pub not_further : (test : attribute.Value → Bool) (attributes : List Attribute) (i : ℕ) (x : Attribute) (e : Error) → i < length attributes → x ≡ slice_index_or attributes i x → test (attribute_value x) ≡ true → HasNoTexts ATTRIBUTE.format (is_formed (attribute_value x)) (attribute_value x ∷ []) e → HasNoTexts ATTRIBUTE.format (AllByRecursion is_formed (filter test (map attribute_value attributes))) (filter test (map attribute_value attributes)) e
not_further test attributes i x e l is passes h =
    not_all ATTRIBUTE.format (filter test (map attribute_value attributes)) (attribute_value x) e (stays test (map attribute_value attributes) (attribute_value x) (contains_item attribute_value attributes i x l is) passes) h
