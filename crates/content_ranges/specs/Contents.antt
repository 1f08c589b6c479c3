-- Content of one type in signed data, with signers of every version (RFC 5652, 5.2; RFC 2315, 9.1).
use Rattle.std.specs.Prelude.{◌≡◌, ◌≢◌, ◌⊎◌, ◌≤◌, ◌+◌, ℕ, List, length, Option, None, Some}
use Rattle.std.specs.declared.ops.Range.{Range}
use Rattle.asn1_core.specs.Der.{ElementOctets, Format, OidOctets}
use Rattle.asn1_core_element.specs.declared.error.Error.{Error}
use Rattle.asn1_core_format.specs.Whole.{HasNoValue, IsValueOf}
use Rattle.asn1_located.specs.Places.{Reading, Route, Walk}
use Rattle.asn1_located.specs.Routes.{fixed, opened, ◌▸◌}
use Rattle.asn1_located.specs.declared.walks.Place.{Place}
use Rattle.asn1_located.specs.declared.walks.Step.{Step}
use Rattle.input_ranges.specs.declared.ranges.Refusal.{Refusal}
use Rattle.input_ranges.specs.declared.ranges.Refusal.TheVariants.{Refused, Part, NoRange}
use Rattle.located_rows.specs.Rows.{IsRangeOf, LeadsTo}
use Rattle.signer_ranges.specs.SignerRoutes.{content_element}
use Rattle.signer_ranges.specs.Signers.{FileValue, content_info_of, signed_file}
use Rattle.x509_pkcs7.specs.RawHashed.{content_of}

-- the input b is signed data, and this element its content, of that type
pub record HasElement (oid : OidOctets) (b : List ℕ) (v : FileValue) (element : ElementOctets) : Type 0 where
  pub is_value : IsValueOf signed_file 64 b v
  pub of_type : (content_info_of v).0 ≡ oid
  pub is_element : content_of (content_info_of v) ≡ Some element

-- the same, and the element reads as w, and as nothing else
pub record HasContent {W : Type 0} (oid : OidOctets) (G : Format W) (b : List ℕ) (v : FileValue) (w : W) : Type 0 where
  pub element : ElementOctets
  pub has : HasElement oid b v element
  pub reads : IsValueOf G 64 element w

-- it is signed data with content of another type, or with none
pub record HasOther (oid : OidOctets) (b : List ℕ) : Type 0 where
  pub value : FileValue
  pub is_value : IsValueOf signed_file 64 b value
  pub other : ((content_info_of value).0 ≢ oid) ⊎ (content_of (content_info_of value) ≡ None)

-- what is read of the input
abbrev pub IsContent : {W : Type 0} → OidOctets → Format W → List ℕ → Option W → Type 0
IsContent oid G b None = HasOther oid b
IsContent oid G b (Some w) = (v : FileValue) × HasContent oid G b v w

-- it is signed data, whose content, of that type, doesn't read
pub record IsUnread {W : Type 0} (oid : OidOctets) (G : Format W) (b : List ℕ) (e : Error) : Type 0 where
  pub value : FileValue
  pub element : ElementOctets
  pub has : HasElement oid b value element
  pub none : HasNoValue G 64 element e

-- why nothing is read: the input is no signed data, or its content doesn't read, or memory was refused
abbrev pub IsContentRefusal : {W : Type 0} → OidOctets → Format W → List ℕ → Refusal → Type 0
IsContentRefusal oid G b (Refused e place) = HasNoValue signed_file 64 b e × (place ≤ length b)
IsContentRefusal oid G b (Part e place) = IsUnread oid G b e × (place ≤ length b)
IsContentRefusal oid G b NoRange = ⊥

-- to a part of the content, which reads as G
abbrev pub in_content : {W X : Type 0} {S : Reading X} (G : Format W) → Route (fixed G.Reads) S → Route signed_file.Reads S
in_content G part = content_element ▸ opened G ▸ part

-- the place is where the steps lead to the content's element, if they lead anywhere
pub record IsContentPlace (b : List ℕ) (place : Place) : Type 0 where
  pub at : (n : ℕ) (y : List ℕ) → Walk content_element.steps 0 b n y → Walk content_element.steps 0 b place.start place.octets.now
  pub inside : place.start + length place.octets.now ≤ length b

-- the range is that of the part x of the content in the input b, in its own place
abbrev pub IsPartAt : {W X : Type 0} {S : Reading X} (G : Format W) → Route (fixed G.Reads) S → List ℕ → FileValue → X → Range ℕ → Type 0
IsPartAt G part b v x r = IsRangeOf (in_content G part) 64 b v x r.start r.end

-- or there is no such part
abbrev pub IsPartOrNone : {W X : Type 0} {S : Reading X} (G : Format W) → Route (fixed G.Reads) S → List ℕ → FileValue → Option X → Option (Range ℕ) → Type 0
IsPartOrNone G part b v None None = Unit {0}
IsPartOrNone G part b v None (Some r) = ⊥
IsPartOrNone G part b v (Some x) None = ⊥
IsPartOrNone G part b v (Some x) (Some r) = IsPartAt G part b v x r

-- where steps lead from the octets x, which begin at m, to a part that there is, or there is none
abbrev pub LeadsOrNone : {X : Type 0} → List Step → ℕ → List ℕ → Option X → Option (Range ℕ) → Type 0
LeadsOrNone steps m x None None = Unit {0}
LeadsOrNone steps m x None (Some r) = ⊥
LeadsOrNone steps m x (Some part) None = ⊥
LeadsOrNone steps m x (Some part) (Some r) = LeadsTo steps m x r.start r.end
