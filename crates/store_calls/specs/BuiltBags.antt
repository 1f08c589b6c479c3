-- What the call from C says, by its status, of bags that it builds from what it is given.
use Rattle.std.specs.Prelude.{◌≡◌, ◌≢◌, ℕ, List, Option, map}
use Rattle.std.specs.List.{AllZip}
use Rattle.asn1_core.specs.Asn1.{SEQUENCE}
use Rattle.asn1_core.specs.Der.{Octets as OctetList}
use Rattle.bag_ranges.specs.declared.ranges.BagKind.TheVariants as Kinds
use Rattle.attribute_writers.specs.Refusals.{IsFirstWithout}
use Rattle.bag_writers.specs.Written.{IsSafeContentsOf, IsTooLong, key_id_of, name_of}
use Rattle.bag_writers.specs.declared.bags.Bag.{Bag}
use Rattle.bag_writers.specs.declared.held.Held.{Held}
use Rattle.bag_writers.specs.declared.held.Held.TheVariants.{Key, ShroudedKey, Certificate, Crl, Secret, SafeContents, Other}
use Rattle.store_calls.specs.Bags.{kind_number}
use Rattle.call_values.specs.BuiltLists.{IsWrongItem}
use Rattle.call_values.specs.Further.{AreFurther}
use Rattle.call_values.specs.Given.{HasNone, IfGiven, IsElementOf, IsOidOf, IsPartOf}
use Rattle.store_calls.specs.Levels.{HasLevels}
use Rattle.call_values.specs.Read.{IsReadAs}
use Rattle.call_values.specs.Statuses.{Reasons, Writes}
use Rattle.store_calls.specs.declared.built_bags.BagGiven.{BagGiven}
use Rattle.store_calls.specs.declared.built_bags.TheConstants.{KIND, IDENTIFIER, VALUE, FRIENDLY_NAME, LOCAL_KEY_ID, ATTRIBUTES}
use Rattle.call_values.specs.declared.ranges.Octets.{Octets}
use Rattle.call_values.specs.declared.status.TheConstants.{INVALID, MALFORMED, MISSING, TOO_DEEP}
use Rattle.pkcs12_bags.specs.BagParts.{encrypted_key_bag, secret_bag}
use Rattle.pkcs12_bags.specs.Oids.{oid}
use Rattle.pkcs12_bags.specs.declared.parts.oids.TheConstants.{CERTIFICATE_BAG, CRL_BAG, KEY_BAG, SAFE_CONTENTS_BAG, SECRET_BAG, SHROUDED_KEY_BAG}
use Rattle.x509_base.specs.Names.{attribute, attribute_value}
use Rattle.x509_pkcs12.specs.Utf16.{IsUtf16}

-- the number of the kind of what is held
abbrev pub held_number : Held → ℕ
held_number (Key x) = kind_number Kinds.Key
held_number (ShroudedKey x) = kind_number Kinds.ShroudedKey
held_number (Certificate x) = kind_number Kinds.Certificate
held_number (Crl x) = kind_number Kinds.Crl
held_number (Secret x) = kind_number Kinds.Secret
held_number (SafeContents x) = kind_number Kinds.SafeContents
held_number (Other id x) = kind_number Kinds.Other

abbrev pub held_octets : Held → List ℕ
held_octets (Key x) = x.now
held_octets (ShroudedKey x) = x.now
held_octets (Certificate x) = x.now
held_octets (Crl x) = x.now
held_octets (Secret x) = x.now
held_octets (SafeContents x) = x.now
held_octets (Other id x) = x.now

-- an object identifier that none of the six kinds has
pub record IsOfNoKind (id : List ℕ) : Type 0 where
  pub key : id ≢ oid KEY_BAG
  pub shrouded_key : id ≢ oid SHROUDED_KEY_BAG
  pub certificate : id ≢ oid CERTIFICATE_BAG
  pub crl : id ≢ oid CRL_BAG
  pub secret : id ≢ oid SECRET_BAG
  pub safe_contents : id ≢ oid SAFE_CONTENTS_BAG

-- an object identifier is given of a bag of another kind
abbrev pub IsOtherId : List ℕ → BagGiven → List ℕ → Type 0
IsOtherId b row id = IsOidOf b row.identifier id × IsOfNoKind id

abbrev pub IsIdOf : List ℕ → BagGiven → Held → Type 0
IsIdOf b row (Other id x) = IsOtherId b row id.now
IsIdOf b row known = Unit {0}

-- what is held reads as its type, and a SafeContents has at most 64 of them in one another
abbrev pub IsAsItsKind : Held → Type 0
IsAsItsKind (ShroudedKey x) = IsReadAs (SEQUENCE encrypted_key_bag).format x.now
IsAsItsKind (Secret x) = IsReadAs (SEQUENCE secret_bag).format x.now
IsAsItsKind (SafeContents x) = HasLevels 64 x.now
IsAsItsKind any = Unit {0}

-- an element that a bag holds, by its kind
pub record IsHeldBy (b : List ℕ) (row : BagGiven) (held : Held) : Type 0 where
  pub kind : row.kind ≡ held_number held
  pub id : IsIdOf b row held
  pub value : IsElementOf b row.value (held_octets held)

-- one that reads as its kind says
pub record IsHeldOf (b : List ℕ) (row : BagGiven) (held : Held) : Type 0 where
  pub by : IsHeldBy b row held
  pub read : IsAsItsKind held

-- a name, in UTF-16
abbrev pub IsNameOf : List ℕ → Octets → List ℕ → Type 0
IsNameOf b r x = IsPartOf b r x × IsUtf16 x

-- an element is read as the type of what a bag holds whose kind has that number
pub record IsAsKind (number : ℕ) (x : List ℕ) : Type 0 where
  pub shrouded_key : number ≡ kind_number Kinds.ShroudedKey → IsReadAs (SEQUENCE encrypted_key_bag).format x
  pub secret : number ≡ kind_number Kinds.Secret → IsReadAs (SEQUENCE secret_bag).format x
  pub safe_contents : number ≡ kind_number Kinds.SafeContents → HasLevels 64 x

-- what a row gives
pub record IsGivenBy (b : List ℕ) (row : BagGiven) (held : Held) (name key_id : Option OctetList) (further : List attribute.Value) : Type 0 where
  pub held_is : IsHeldOf b row held
  pub friendly_name : IfGiven row.has_friendly_name (IsNameOf b row.friendly_name) name
  pub local_key_id : IfGiven row.has_local_key_id (IsPartOf b row.local_key_id) key_id
  pub attributes : AreFurther b row.has_attributes row.attributes further

-- the bag that a row gives of the input b
abbrev pub IsBagBy : List ℕ → BagGiven → Bag → Type 0
IsBagBy b row bag = IsGivenBy b row bag.held (name_of bag) (key_id_of bag) (map attribute_value bag.attributes.now)

-- the row gives a bag
pub record GivesBag (b : List ℕ) (row : BagGiven) : Type 0 where
  pub held : Held
  pub name : Option OctetList
  pub key_id : Option OctetList
  pub further : List attribute.Value
  pub given : IsGivenBy b row held name key_id further

-- which part can't be written, by its number, a der_bag_part
pub data IsWrongBag (b : List ℕ) (row : BagGiven) : ℕ → Type 0 where
  bag_kind : ((held : Held) → row.kind ≢ held_number held) → IsWrongBag b row KIND
  bag_identifier : row.kind ≡ kind_number Kinds.Other → HasNone (IsOtherId b row) → IsWrongBag b row IDENTIFIER
  bag_element : HasNone (λ x. IsElementOf b row.value x × IsAsKind row.kind x) → IsWrongBag b row VALUE
  bag_friendly_name : HasNone (IfGiven row.has_friendly_name (IsNameOf b row.friendly_name)) → IsWrongBag b row FRIENDLY_NAME
  bag_local_key_id : HasNone (IfGiven row.has_local_key_id (IsPartOf b row.local_key_id)) → IsWrongBag b row LOCAL_KEY_ID
  bag_attributes : HasNone (AreFurther b row.has_attributes row.attributes) → IsWrongBag b row ATTRIBUTES

-- the text is the encoding of a SafeContents of the bags that the rows give, and is read as it
abbrev pub HasBuiltBags : List ℕ → List BagGiven → List ℕ → Type 0
HasBuiltBags b rows text = (bags : List Bag) × AllZip (IsBagBy b) rows bags × IsSafeContentsOf bags text

-- they have an attribute that is too long, or are too long together
abbrev pub AreTooLong : List ℕ → List BagGiven → Type 0
AreTooLong b rows = (bags : List Bag) × AllZip (IsBagBy b) rows bags × IsTooLong bags

abbrev pub without_bags : List ℕ → List BagGiven → Reasons
without_bags b rows = record {
  IsUnknown = ⊥;
  HasNone = (index : ℕ) × IsFirstWithout (GivesBag b) rows index;
  IsLong = AreTooLong b rows;
  TakesMemory = Unit {0};
  LacksRange = ⊥;
  IsAbsent = ⊥;
}

-- what der_build_bags answers
pub record BuildsBags (b : List ℕ) (rows : List BagGiven) (old new : List ℕ) (written bag part status : ℕ) : Type 0 where
  pub writes : Writes (HasBuiltBags b rows) (without_bags b rows) old new written status
  -- the row with that index gives no bag, and those before it do
  pub at : status ≡ INVALID → IsFirstWithout (GivesBag b) rows bag
  -- its part with that number can't be written
  pub of : status ≡ INVALID → IsWrongItem (IsWrongBag b) rows bag part
  pub no_part : status ≢ INVALID → (bag ≡ 0) × (part ≡ 0)
  -- no other refusal
  pub refused : (status ≢ MALFORMED) × (status ≢ MISSING) × (status ≢ TOO_DEEP)
