-- What the call from C says, by its status, of where signed data has the parts of its content.
use Rattle.std.specs.Prelude.{◌≡◌, ◌≢◌, ◌≤◌, ℕ, List, Option, None, Some}
use Rattle.asn1_core.specs.Der.{Format, OidOctets}
use Rattle.content_ranges.specs.Contents.{HasContent, HasOther}
use Rattle.content_ranges.specs.Indirect.{AreIndirectRanges}
use Rattle.content_ranges.specs.IndirectRoutes.{indirect_data}
use Rattle.content_ranges.specs.declared.ranges.ImageRanges.{ImageRanges}
use Rattle.content_ranges.specs.declared.ranges.IndirectRanges.{IndirectRanges}
use Rattle.call_values.specs.Ranges.{is_there, nothing, octets_of, octets_or_none}
use Rattle.call_values.specs.Statuses.{IsPlace, Reasons, SaysWhy}
use Rattle.cms_calls.specs.declared.contents.Indirect.{Indirect}
use Rattle.call_values.specs.declared.ranges.Octets.{Octets}
use Rattle.call_values.specs.declared.status.TheConstants.{NORMAL, LOOSE, NO_ROOM, NO_PART}
use Rattle.pkcs7_content.specs.Oids.{indirect_data_oid}
use Rattle.signer_ranges.specs.Signers.{FileValue}

-- the parts of image data, where there are some
abbrev pub has_flags : Option ImageRanges → ℕ
has_flags None = 0
has_flags (Some i) = is_there i.flags

abbrev pub flags_in : Option ImageRanges → Octets
flags_in None = nothing
flags_in (Some i) = octets_or_none i.flags

abbrev pub has_link : Option ImageRanges → ℕ
has_link None = 0
has_link (Some i) = is_there i.link

abbrev pub link_in : Option ImageRanges → Octets
link_in None = nothing
link_in (Some i) = octets_or_none i.link

-- the ranges of indirect data
abbrev pub indirect_row : IndirectRanges → Indirect
indirect_row r = record {
  has_attribute_value = is_there r.value;
  is_image = is_there r.image;
  has_image_flags = has_flags r.image;
  has_image_link = has_link r.image;
  attribute_type = octets_of r.ty;
  attribute_value = octets_or_none r.value;
  digest_algorithm = octets_of r.digest_algorithm;
  digest = octets_of r.digest;
  image_flags = flags_in r.image;
  image_link = link_in r.image;
}

-- all 0
abbrev pub no_indirect : Indirect
no_indirect = record {
  has_attribute_value = 0;
  is_image = 0;
  has_image_flags = 0;
  has_image_link = 0;
  attribute_type = nothing;
  attribute_value = nothing;
  digest_algorithm = nothing;
  digest = nothing;
  image_flags = nothing;
  image_link = nothing;
}

-- the input is no signed data whose content, of that type, reads; at DER_NO_PART its content is of another type, or there is none
abbrev pub without_content : {W : Type 0} → OidOctets → Format W → List ℕ → Reasons
without_content {W} oid G b = record {
  IsUnknown = ⊥;
  HasNone = (v : FileValue) (w : W) → HasContent oid G b v w → ⊥;
  IsLong = ⊥;
  TakesMemory = Unit {0};
  LacksRange = ⊥;
  IsAbsent = HasOther oid b;
}

-- what der_indirect answers of the input b
pub record FindsIndirect (b : List ℕ) (new : Indirect) (place status : ℕ) : Type 0 where
  -- DER_NORMAL: these are the ranges of its parts
  pub found : status ≡ NORMAL → (r : IndirectRanges) × AreIndirectRanges b r × (new ≡ indirect_row r)
  pub why : SaysWhy (without_content indirect_data_oid indirect_data b) status
  pub none : status ≢ NORMAL → new ≡ no_indirect
  pub at : IsPlace b place status
  pub range : (status ≢ LOOSE) × ((status ≢ NO_ROOM) × (status ≤ NO_PART))
