-- Where signed data has the parts of its indirect data.
use Rattle.std.specs.Prelude.{◌≡◌, ℕ, List, Option, None, Some}
use Rattle.asn1_core.specs.Der.{BitStringOctets, ElementOctets, Octets, OidOctets}
use Rattle.asn1_core_format.specs.Whole.{IsValueOf}
use Rattle.content_ranges.specs.Contents.{HasContent, HasOther, IsContentRefusal, IsPartAt, IsPartOrNone}
use Rattle.content_ranges.specs.IndirectRoutes.{ImageValue, IndirectValue, digest, digest_algorithm, flags, image_data, indirect_data, link, subject_type, subject_value}
use Rattle.content_ranges.specs.declared.ranges.ImageRanges.{ImageRanges}
use Rattle.content_ranges.specs.declared.ranges.IndirectRanges.{IndirectRanges}
use Rattle.input_ranges.specs.declared.ranges.Refusal.{Refusal}
use Rattle.pkcs7_content.specs.Oids.{indirect_data_oid, pe_image_oid}
use Rattle.signer_ranges.specs.Signers.{FileValue}
use Rattle.x509_base.specs.Algorithms.{algorithm_identifier}

abbrev pub type_of : IndirectValue → OidOctets
type_of w = w.0.0

abbrev pub value_of : IndirectValue → Option ElementOctets
value_of w = w.0.1.0

abbrev pub algorithm_of : IndirectValue → algorithm_identifier.Value
algorithm_of w = w.1.0.0

abbrev pub digest_of : IndirectValue → Octets
digest_of w = w.1.0.1.0

abbrev pub flags_of : ImageValue → Option BitStringOctets
flags_of i = i.0

abbrev pub link_of : ImageValue → Option ElementOctets
link_of i = i.1.0

-- the attribute is an image's, and its value reads as i
pub record IsImage (w : IndirectValue) (i : ImageValue) : Type 0 where
  pub of_type : type_of w ≡ pe_image_oid
  pub element : ElementOctets
  pub is_element : value_of w ≡ Some element
  pub reads : IsValueOf image_data 64 element i

-- the parts of image data
pub record AreImageRanges (b : List ℕ) (v : FileValue) (w : IndirectValue) (r : ImageRanges) : Type 0 where
  pub image : ImageValue
  pub is_image : IsImage w image
  pub flags_at : IsPartOrNone indirect_data flags b v (flags_of image) r.flags
  pub link_at : IsPartOrNone indirect_data link b v (link_of image) r.link

-- or none, where the value isn't image data
abbrev pub AreImageRangesOrNone : List ℕ → FileValue → IndirectValue → Option ImageRanges → Type 0
AreImageRangesOrNone b v w None = (i : ImageValue) → IsImage w i → ⊥
AreImageRangesOrNone b v w (Some r) = AreImageRanges b v w r

-- all ranges of indirect data w
pub record AreRangesOf (b : List ℕ) (v : FileValue) (w : IndirectValue) (r : IndirectRanges) : Type 0 where
  pub type_at : IsPartAt indirect_data subject_type b v (type_of w) r.ty
  pub value_at : IsPartOrNone indirect_data subject_value b v (value_of w) r.value
  pub image_at : AreImageRangesOrNone b v w r.image
  pub algorithm_at : IsPartAt indirect_data digest_algorithm b v (algorithm_of w) r.digest_algorithm
  pub digest_at : IsPartAt indirect_data digest b v (digest_of w) r.digest

-- the same of the content of the input, signed data
pub record AreIndirectRanges (b : List ℕ) (r : IndirectRanges) : Type 0 where
  pub value : FileValue
  pub content : IndirectValue
  pub has : HasContent indirect_data_oid indirect_data b value content
  pub are : AreRangesOf b value content r

-- or the content of the signed data isn't indirect data
abbrev pub AreIndirectOrNone : List ℕ → Option IndirectRanges → Type 0
AreIndirectOrNone b None = HasOther indirect_data_oid b
AreIndirectOrNone b (Some r) = AreIndirectRanges b r

abbrev pub IsIndirectRefusal : List ℕ → Refusal → Type 0
IsIndirectRefusal b = IsContentRefusal indirect_data_oid indirect_data b
