-- Bags as ranges of a file (RFC 7292, 4.2). Each range is the place of that part: the steps to it lead there from where its
-- bag is. What is in the input b from m to n is what its octets from m up to n are an encoding of.
use Rattle.std.specs.Prelude.{◌≡◌, ◌≢◌, ◌⊎◌, ◌≤◌, ◌-◌, ℕ, zero, suc, List, [], ◌∷◌, ◌++◌, length, Option, None, Some, slice_range}
use Rattle.std.specs.declared.ops.Range.{Range}
use Rattle.std.proofs.Common.{arith}
use Rattle.asn1_core.specs.Der.{Format, octet_string, Octets, OidOctets, ElementOctets}
use Rattle.asn1_located.specs.Places.{Reading, Route, Walk}
use Rattle.asn1_located.specs.Routes.{as_is}
use Rattle.bag_ranges.specs.BagRoutes.{BAG, SAFE, attribute_octets, bag_value, bags_in, encrypted_key, other_element, x509_octets}
use Rattle.pkcs12_bags.specs.BagParts.{encrypted_key_bag}
use Rattle.pkcs12_bags.specs.Oids.{oid}
use Rattle.pkcs12_bags.specs.declared.parts.oids.TheConstants.{KEY_BAG, SHROUDED_KEY_BAG, CERTIFICATE_BAG, CRL_BAG, SECRET_BAG, SAFE_CONTENTS_BAG, X509_CERTIFICATE, X509_CRL, FRIENDLY_NAME, LOCAL_KEY_ID}
use Rattle.x509_base.specs.AttributesByOid.{with_oid, IsOnlyOf}
use Rattle.x509_pkcs12.specs.RawBags.{raw_safe_bag, attributes_of}
use Rattle.x509_pkcs12.specs.Utf16.{IsUtf16, utf16_string}
use Rattle.bag_ranges.specs.declared.ranges.BagKind.{BagKind}
use Rattle.bag_ranges.specs.declared.ranges.BagKind.TheVariants.{Key, ShroudedKey, Certificate, Crl, Secret, SafeContents, Other, Unread, OtherCertificate, OtherCrl}
use Rattle.bag_ranges.specs.declared.ranges.BagRanges.{BagRanges}

abbrev pub BagValue : Type 0
BagValue = raw_safe_bag.Value

-- the kind that an object identifier says
abbrev pub IsKind : BagKind → OidOctets → Type 0
IsKind Key id = id ≡ oid KEY_BAG
IsKind ShroudedKey id = id ≡ oid SHROUDED_KEY_BAG
IsKind Certificate id = id ≡ oid CERTIFICATE_BAG
IsKind OtherCertificate id = id ≡ oid CERTIFICATE_BAG
IsKind Crl id = id ≡ oid CRL_BAG
IsKind OtherCrl id = id ≡ oid CRL_BAG
IsKind Secret id = id ≡ oid SECRET_BAG
IsKind SafeContents id = id ≡ oid SAFE_CONTENTS_BAG
IsKind Other id = (id ≢ oid KEY_BAG) × (id ≢ oid SHROUDED_KEY_BAG) × (id ≢ oid CERTIFICATE_BAG) × (id ≢ oid CRL_BAG) × (id ≢ oid SECRET_BAG) × (id ≢ oid SAFE_CONTENTS_BAG)
IsKind Unread id = ⊥

-- the value is in the input from m to n
pub record IsIn {V : Type 0} (R : Reading V) (b : List ℕ) (m n : ℕ) (v : V) : Type 0 where
  pub reads : R 64 (slice_range b m n) v
  pub inside : (m ≤ n) × (n ≤ length b)

-- from the value v, which is in the input from m to n, the steps of the route lead to the range, which is its part w
pub record IsPartIn {V W : Type 0} {R : Reading V} {S : Reading W} (route : Route R S) (b : List ℕ) (m n : ℕ) (v : V) (w : W) (r : Range ℕ) : Type 0 where
  pub walk : Walk route.steps m (slice_range b m n) r.start (slice_range b r.start r.end)
  pub is_part : route.IsPart v w
  pub is : IsIn S b r.start r.end w

-- what a bag of a kind holds is there: the octets of an X.509 one, the element of another, the element of any other value
abbrev pub IsValueAt : List ℕ → ℕ → ℕ → BagValue → BagKind → Range ℕ → Type 0
IsValueAt b m n bag Certificate r = (octets : Octets) × IsPartIn (x509_octets X509_CERTIFICATE) b m n bag octets r
IsValueAt b m n bag OtherCertificate r = (element : ElementOctets) × IsPartIn (other_element X509_CERTIFICATE) b m n bag element r
IsValueAt b m n bag Crl r = (octets : Octets) × IsPartIn (x509_octets X509_CRL) b m n bag octets r
IsValueAt b m n bag OtherCrl r = (element : ElementOctets) × IsPartIn (other_element X509_CRL) b m n bag element r
IsValueAt b m n bag ShroudedKey r = (key : encrypted_key_bag.Value) × IsPartIn encrypted_key b m n bag key r
IsValueAt b m n bag Key r = IsPartIn bag_value b m n bag bag.1.0 r
IsValueAt b m n bag Secret r = IsPartIn bag_value b m n bag bag.1.0 r
IsValueAt b m n bag SafeContents r = IsPartIn bag_value b m n bag bag.1.0 r
IsValueAt b m n bag Other r = IsPartIn bag_value b m n bag bag.1.0 r
IsValueAt b m n bag Unread r = IsPartIn bag_value b m n bag bag.1.0 r

-- the octets are there, in the attribute with some index, or there are none
abbrev pub AreNamedAt : (ℕ → Route BAG.format.Reads as_is) → List ℕ → ℕ → ℕ → BagValue → Option Octets → Option (Range ℕ) → Type 0
AreNamedAt route b m n bag None None = Unit {0}
AreNamedAt route b m n bag None (Some r) = ⊥
AreNamedAt route b m n bag (Some octets) None = ⊥
AreNamedAt route b m n bag (Some octets) (Some r) = (j : ℕ) × IsPartIn (route j) b m n bag octets r

-- the octets of the one value of the only attribute of a type are there, or there is no such attribute
pub record IsAttributeAt (type : OidOctets) (F : Format Octets) (route : ℕ → Route BAG.format.Reads as_is) (b : List ℕ) (m n : ℕ) (bag : BagValue) (r : Option (Range ℕ)) : Type 0 where
  pub octets : Option Octets
  pub only : IsOnlyOf F (with_oid type (attributes_of bag)) octets
  pub at : AreNamedAt route b m n bag octets r

abbrev pub name_octets : ℕ → Route BAG.format.Reads as_is
name_octets = attribute_octets (oid FRIENDLY_NAME) 0x1E (omega arith) IsUtf16

abbrev pub key_id_octets : ℕ → Route BAG.format.Reads as_is
key_id_octets = attribute_octets (oid LOCAL_KEY_ID) 0x04 (omega arith) (λ _. Unit {0})

abbrev pub IsNameAt : List ℕ → ℕ → ℕ → BagValue → Option (Range ℕ) → Type 0
IsNameAt = IsAttributeAt (oid FRIENDLY_NAME) utf16_string.format name_octets

abbrev pub IsKeyIdAt : List ℕ → ℕ → ℕ → BagValue → Option (Range ℕ) → Type 0
IsKeyIdAt = IsAttributeAt (oid LOCAL_KEY_ID) octet_string key_id_octets

-- the ranges of a bag, which is in the input from m to n, and in which `below` further levels are allowed
pub record IsBagAt (below : ℕ) (b : List ℕ) (m n : ℕ) (bag : BagValue) (r : BagRanges) : Type 0 where
  pub is : IsIn BAG.format.Reads b m n bag
  pub element : (r.element.start ≡ m) × (r.element.end ≡ n)
  pub kind : IsKind r.kind bag.0
  pub level : r.level ≡ 64 - below
  pub value : IsValueAt b m n bag r.kind r.value
  pub friendly_name : IsNameAt b m n bag r.friendly_name
  pub local_key_id : IsKeyIdAt b m n bag r.local_key_id

-- the rows of something that is in the input from one place to another
abbrev pub Rows : Type 1
Rows = ℕ → ℕ → List BagRanges → Type 0

-- some values follow one another from m to n, and each has its rows, which follow one another too
abbrev pub InOrder : {V : Type 0} → (V → Rows) → List V → Rows
InOrder Q [] m n rows = (m ≡ n) × (rows ≡ [])
InOrder Q (v ∷ vs) m n rows = (k : ℕ) × (first rest : List BagRanges) × (rows ≡ first ++ rest) × Q v m k first × InOrder Q vs k n rest

-- the element, which is in the input from m to n, is a SafeContents, of which the bags have these rows
pub record AreInside (All : List BagValue → Rows) (element : ElementOctets) (m n : ℕ) (rows : List BagRanges) : Type 0 where
  pub bags : List BagValue
  pub reads : SAFE.format.Reads 64 element bags
  pub all : All bags m n rows

-- the rows of the bags in a bag, whose value is in the input from m to n: none, unless it is a SafeContents
abbrev pub AreInBag : (List BagValue → Rows) → BagValue → Rows
AreInBag All bag m n rows = ((bag.0 ≡ oid SAFE_CONTENTS_BAG) × AreInside All bag.1.0 m n rows) ⊎ ((bag.0 ≢ oid SAFE_CONTENTS_BAG) × (rows ≡ []))

-- the row of a bag, and then those of the bags in it
pub record AreOfBag (All : List BagValue → Rows) (below : ℕ) (b : List ℕ) (bag : BagValue) (m n : ℕ) (rows : List BagRanges) : Type 0 where
  pub own : BagRanges
  pub others : List BagRanges
  pub are : rows ≡ own ∷ others
  pub is : IsBagAt below b m n bag own
  pub inside : AreInBag All bag own.value.start own.value.end others

-- the bags of a SafeContents, which is in the input from m to n, have these rows
pub record AreIn (Q : BagValue → Rows) (b : List ℕ) (bags : List BagValue) (m n : ℕ) (rows : List BagRanges) : Type 0 where
  pub place : Range ℕ
  pub at : IsPartIn bags_in b m n bags bags place
  pub all : InOrder Q bags place.start place.end rows

-- the same of bags in at most so many SafeContents in one another
abbrev pub AreBags : ℕ → List ℕ → List BagValue → Rows
AreBags zero b bags m n rows = ⊥
AreBags (suc below) b bags m n rows = AreIn (AreOfBag (AreBags below b) below b) b bags m n rows
