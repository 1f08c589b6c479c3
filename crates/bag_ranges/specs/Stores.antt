-- The bags of a PKCS #12 store (RFC 7292, 4), as ranges of the file.
use Rattle.std.specs.Prelude.{◌≡◌, ◌≢◌, ◌≤◌, ◌⊎◌, ℕ, List, [], ◌∷◌, length, Option, None, Some}
use Rattle.std.specs.declared.ops.Range.{Range}
use Rattle.asn1_core.specs.Der.{raw, Octets, IsValueOf, HasNoValue}
use Rattle.located_rows.specs.Rows.{IsRangeOf}
use Rattle.pkcs12_bags.specs.Oids.{data_oid}
use Rattle.x509_pkcs12.specs.MacOctets.{mac_octets}
use Rattle.x509_pkcs12.specs.Pfxs.{PfxValue, pfx}
use Rattle.input_ranges.specs.declared.ranges.Refusal.{Refusal}
use Rattle.input_ranges.specs.declared.ranges.Refusal.TheVariants.{Refused, Part, NoRange}
use Rattle.bag_ranges.specs.BagRoutes.{CONTENT, auth_safe_element, safe_in_data, store_contents}
use Rattle.bag_ranges.specs.Bags.{AreBags, BagValue, InOrder, IsIn, IsPartIn}
use Rattle.bag_ranges.specs.RawContentInfos.{raw_content_info}
use Rattle.bag_ranges.specs.declared.ranges.BagKind.TheVariants.{Unread}
use Rattle.bag_ranges.specs.declared.ranges.BagRanges.{BagRanges}

abbrev pub StoreValue : Type 0
StoreValue = PfxValue Octets

abbrev pub ContentValue : Type 0
ContentValue = raw_content_info.Value

-- the row of an element that isn't read
abbrev pub unread_row : ℕ → ℕ → BagRanges
unread_row m n = record { kind = Unread; level = 0; element = record { start = m; end = n }; value = record { start = m; end = n }; friendly_name = None; local_key_id = None }

abbrev pub AreUnread : ℕ → ℕ → List BagRanges → Type 0
AreUnread m n rows = rows ≡ unread_row m n ∷ []

-- data: a SafeContents in an OCTET STRING, and the rows of its bags
pub record AreOfData (b : List ℕ) (content : ContentValue) (m n : ℕ) (rows : List BagRanges) : Type 0 where
  pub bags : List BagValue
  pub place : Range ℕ
  pub at : IsPartIn safe_in_data b m n content bags place
  pub all : AreBags 65 b bags place.start place.end rows

-- the rows of a content, which is in the input from m to n, by its type
pub record AreOfContent (b : List ℕ) (content : ContentValue) (m n : ℕ) (rows : List BagRanges) : Type 0 where
  pub is : IsIn CONTENT.format.Reads b m n content
  pub rows_are : ((content.0 ≡ data_oid) × AreOfData b content m n rows) ⊎ ((content.0 ≢ data_oid) × AreUnread m n rows)

-- an AuthenticatedSafe in its place, and the rows of its contents
pub record AreOfSafe (b : List ℕ) (store : StoreValue) (rows : List BagRanges) : Type 0 where
  pub contents : List ContentValue
  pub place : Range ℕ
  pub at : IsRangeOf store_contents 64 b store contents place.start place.end
  pub all : InOrder (AreOfContent b) contents place.start place.end rows

-- an authSafe that isn't data, in its place
pub record IsUnreadSafe (b : List ℕ) (store : StoreValue) (rows : List BagRanges) : Type 0 where
  pub place : Range ℕ
  pub at : IsRangeOf auth_safe_element 64 b store store.1.0 place.start place.end
  pub are : AreUnread place.start place.end rows

-- the rows of a store, by the octets of its data, if its authSafe is data
abbrev pub AreOfStore : List ℕ → StoreValue → Option Octets → List BagRanges → Type 0
AreOfStore b store None rows = IsUnreadSafe b store rows
AreOfStore b store (Some octets) rows = AreOfSafe b store rows

-- all rows of the store that is the only value of the input
pub record AreBagsOf (b : List ℕ) (rows : List BagRanges) : Type 0 where
  pub store : StoreValue
  pub is_value : IsValueOf (pfx raw) 64 b store
  pub all : AreOfStore b store (mac_octets store) rows

-- the input is a store
pub record IsStore (b : List ℕ) : Type 0 where
  pub store : StoreValue
  pub is_value : IsValueOf (pfx raw) 64 b store

-- there are no rows: a part doesn't read as it has to
abbrev pub HasNoBags : List ℕ → Type 0
HasNoBags b = (rows : List BagRanges) → AreBagsOf b rows → ⊥

-- why there are none: the input is no store, or memory was refused, or it is a store that has none
abbrev pub IsRefusal : List ℕ → Refusal → Type 0
IsRefusal b (Refused e place) = HasNoValue (pfx raw) 64 b e × (place ≤ length b)
IsRefusal b (Part e place) = IsStore b × HasNoBags b × (place ≤ length b)
IsRefusal b NoRange = ⊥
