-- What is written of given attributes: the encoding of a SET OF them.
use Rattle.std.specs.Prelude.{◌≡◌, ◌⊎◌, ◌≤◌, ◌^◌, ℕ, List, length, map}
use Rattle.std.specs.List.{AllByRecursion, Contains}
use Rattle.std.specs.List.Sorted.{IsPermutation, IsSorted}
use Rattle.asn1_core.specs.Der.{ElementOctets, object_identifier, octet_string}
use Rattle.asn1_core_element.specs.declared.error.Error.{Error}
use Rattle.asn1_core_format.specs.Whole.{IsValueOf}
use Rattle.asn1_sets.specs.Encodings.{HasNoTexts}
use Rattle.asn1_sets.specs.Order.{compared}
use Rattle.attribute_writers.specs.Refusals.{Refuses}
use Rattle.attribute_writers.specs.Attributes.{ATTRIBUTE, attribute_text, is_formed}
use Rattle.pkcs7_attributes.specs.NamedAttributes.{content_type_oid, message_digest_oid, signing_time_oid}
use Rattle.pkcs7_attributes.specs.SignedSets.{attributes_as_set}
use Rattle.signed_writers.specs.GivenAttributes.{AreGood, content_type_of, digest_of, given_attributes, time_of}
use Rattle.signed_writers.specs.declared.attributes.SignedAttributes.{SignedAttributes}
use Rattle.x509_base.specs.AttributesByOid.{IsOnlyOf, with_oid}
use Rattle.x509_base.specs.Names.{attribute}
use Rattle.x509_base.specs.Times.{time}

-- the attributes are those that are given, in the order of DER (X.690, 11.6), and each is found by its type
pub record AreInOrder (given : SignedAttributes) (all : List attribute.Value) : Type 0 where
  pub permutation : IsPermutation (given_attributes given) all
  pub sorted : IsSorted compared (map attribute_text all)
  pub content_type : IsOnlyOf object_identifier (with_oid content_type_oid all) (content_type_of given)
  pub message_digest : IsOnlyOf octet_string (with_oid message_digest_oid all) (digest_of given)
  pub signing_time : IsOnlyOf time.format (with_oid signing_time_oid all) (time_of given.signing_time)

-- the text is the encoding of a SET OF these attributes, and is read as it
pub record AreSignedAttributes (given : SignedAttributes) (text : List ℕ) : Type 0 where
  pub good : AreGood given
  pub all : List attribute.Value
  pub are : AreInOrder given all
  pub text_is : text ≡ attributes_as_set.text all
  pub reads : IsValueOf attributes_as_set 64 text all

-- why there are no encodings of the attributes
abbrev pub HasNoAttributes : SignedAttributes → Error → Type 0
HasNoAttributes given e = HasNoTexts ATTRIBUTE.format (AreGood given) (given_attributes given) e

-- an attribute, or the whole, is too long to be written
abbrev pub AreTooLong : SignedAttributes → Type 0
AreTooLong given =
    ((a : attribute.Value) × Contains (given_attributes given) a × (2 ^ 64 ≤ length (attribute_text a)))
    ⊎ ((text : List ℕ) × AreSignedAttributes given text × (2 ^ 64 ≤ length text))

-- why there is no SET of them
abbrev pub HasNoSet : SignedAttributes → Error → Type 0
HasNoSet given e = Refuses (AreGood given) (AreTooLong given) e

-- the encodings of the attributes
pub record AreTexts (given : SignedAttributes) (texts : List ElementOctets) : Type 0 where
  pub good : AreGood given
  pub all : List attribute.Value
  pub are : AreInOrder given all
  pub texts_are : texts ≡ map attribute_text all
  pub formed : AllByRecursion is_formed all
