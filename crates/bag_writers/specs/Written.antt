-- What is written of given bags: the encoding of a SafeContents whose bags are these.
use Rattle.std.specs.Prelude.{◌≡◌, ◌≢◌, ◌⊎◌, ◌≤◌, ◌^◌, ◌++◌, ℕ, List, [], ◌∷◌, length, Option, None, Some, map}
use Rattle.std.specs.List.{AllByRecursion, AllZip, Contains}
use Rattle.std.specs.List.Sorted.{IsPermutation, IsSorted}
use Rattle.asn1_core.specs.Asn1.{Asn1, OBJECT_IDENTIFIER, SEQUENCE}
use Rattle.asn1_core.specs.Der.{ElementOctets, Octets, octet_string, option_value}
use Rattle.asn1_core_element.specs.declared.error.Error.{Error}
use Rattle.asn1_core_format.specs.Whole.{IsValueOf}
use Rattle.asn1_sets.specs.Encodings.{HasNoTexts}
use Rattle.asn1_sets.specs.Order.{compared}
use Rattle.attribute_writers.specs.Refusals.{Refuses}
use Rattle.attribute_writers.specs.Attributes.{ATTRIBUTE, attribute_text, is_formed}
use Rattle.bag_writers.specs.GivenAttributes.{IsName, key_ids, names, further}
use Rattle.bag_writers.specs.Given.{held}
use Rattle.bag_writers.specs.Values.{attributes_in, held_id, held_value}
use Rattle.bag_writers.specs.declared.bags.Attributed.{Attributed}
use Rattle.bag_writers.specs.declared.bags.Bag.{Bag}
use Rattle.pkcs12_bags.specs.Oids.{oid}
use Rattle.pkcs12_bags.specs.declared.parts.oids.TheConstants.{FRIENDLY_NAME, LOCAL_KEY_ID}
use Rattle.x509_base.specs.AttributesByOid.{IsOnlyOf, with_oid}
use Rattle.x509_base.specs.Names.{attribute}
use Rattle.x509_pkcs12.specs.RawBags.{attributes_of, raw_safe_bag, raw_safe_contents}
use Rattle.x509_pkcs12.specs.Utf16.{utf16_string}

abbrev pub SAFE : Asn1
SAFE = SEQUENCE raw_safe_contents

abbrev pub name_of : Bag → Option Octets
name_of x = option_value (λ o. o.now) x.friendly_name

abbrev pub key_id_of : Bag → Option Octets
key_id_of x = option_value (λ o. o.now) x.local_key_id

-- the attributes that are written of a bag: its name, its local key identifier, and the further ones
abbrev pub given_attributes : Bag → List attribute.Value
given_attributes x = names (name_of x) ++ (key_ids (key_id_of x) ++ further x.attributes.now)

-- the attributes are those that are given, in the order of DER (X.690, 11.6), and are found by their types
pub record AreAttributesOf (given : Bag) (all : List attribute.Value) : Type 0 where
  pub permutation : IsPermutation (given_attributes given) all
  pub sorted : IsSorted compared (map attribute_text all)
  pub friendly_name : IsOnlyOf utf16_string.format (with_oid (oid FRIENDLY_NAME) all) (name_of given)
  pub local_key_id : IsOnlyOf octet_string (with_oid (oid LOCAL_KEY_ID) all) (key_id_of given)

-- the bag that is given. Of one without attributes no set is written
pub record IsBagOf (given : Bag) (bag : raw_safe_bag.Value) : Type 0 where
  pub id : bag.0 ≡ held_id given.held
  pub value : bag.1.0 ≡ held.text (held_value given.held)
  pub attributes : AreAttributesOf given (attributes_of bag)
  pub not_empty : bag.1.1.0 ≢ Some []

-- a name is UTF-16, and further attributes are well-formed
abbrev pub HasGoodAttributes : Bag → Type 0
HasGoodAttributes x = IsName (name_of x) × AllByRecursion is_formed (further x.attributes.now)

-- a bag that can be written: its object identifier, what it holds and its attributes are well-formed
pub record CanBeWritten (given : Bag) : Type 0 where
  pub id : OBJECT_IDENTIFIER.format.IsWellFormed 64 (held_id given.held)
  pub value : held.IsWellFormed 64 (held_value given.held)
  pub attributes : HasGoodAttributes given

-- the bags can be written, and the text is the encoding of a SafeContents whose bags they are, and is read as it
pub record IsSafeContentsOf (given : List Bag) (text : List ℕ) : Type 0 where
  pub can : AllByRecursion CanBeWritten given
  pub bags : raw_safe_contents.Value
  pub each : AllZip IsBagOf given bags
  pub text_is : text ≡ SAFE.format.text bags
  pub reads : IsValueOf SAFE.format 64 text bags

-- an attribute, or the whole, is too long to be written
abbrev pub IsTooLong : List Bag → Type 0
IsTooLong given =
    ((bag : Bag) × Contains given bag × (a : attribute.Value) × Contains (given_attributes bag) a × (2 ^ 64 ≤ length (attribute_text a)))
    ⊎ ((text : List ℕ) × IsSafeContentsOf given text × (2 ^ 64 ≤ length text))

-- why nothing is written
abbrev pub IsNotSafe : List Bag → Error → Type 0
IsNotSafe given e = Refuses (AllByRecursion CanBeWritten given) (IsTooLong given) e

-- the same of a bag's attributes alone
abbrev pub HasNoAttributes : Bag → Error → Type 0
HasNoAttributes given e = HasNoTexts ATTRIBUTE.format (HasGoodAttributes given) (given_attributes given) e

-- the encodings of a bag's attributes
pub record HasTexts (given : Bag) (texts : List ElementOctets) : Type 0 where
  pub good : HasGoodAttributes given
  pub all : List attribute.Value
  pub are : AreAttributesOf given all
  pub texts_are : texts ≡ map attribute_text all
  pub formed : AllByRecursion is_formed all

-- None for an empty list
abbrev pub set_of : List ElementOctets → Option (List ElementOctets)
set_of [] = None
set_of (x ∷ xs) = Some (x ∷ xs)

pub record HasAttributes (given : Bag) (x : Attributed) : Type 0 where
  pub held : x.held ≡ given.held
  pub texts : List ElementOctets
  pub set : attributes_in x ≡ set_of texts
  pub have : HasTexts given texts
