-- What the calls from C say, by their status, of where signed data has the parts of its trust list.
use Rattle.std.specs.Prelude.{◌≡◌, ◌≢◌, ◌≤◌, ℕ, List, map}
use Rattle.content_ranges.specs.TrustLists.{AreTrustListRanges, AreTrustRows}
use Rattle.content_ranges.specs.TrustRoutes.{trust_list}
use Rattle.content_ranges.specs.declared.ranges.EntryRanges.{EntryRanges}
use Rattle.content_ranges.specs.declared.ranges.TrustListRanges.{TrustListRanges}
use Rattle.cms_calls.specs.Contents.{without_content}
use Rattle.call_values.specs.Ranges.{is_there, nothing, octets_of, octets_or_none}
use Rattle.call_values.specs.Statuses.{IsPlace, SaysWhy, WritesAt}
use Rattle.call_values.specs.declared.status.TheConstants.{NORMAL, LOOSE, NO_ROOM, NO_PART}
use Rattle.cms_calls.specs.declared.trust_lists.TrustEntry.{TrustEntry}
use Rattle.cms_calls.specs.declared.trust_lists.TrustList.{TrustList}
use Rattle.pkcs7_content.specs.Oids.{trust_list_oid}

-- the ranges of a list
abbrev pub trust_list_row : TrustListRanges → TrustList
trust_list_row r = record {
  has_version = is_there r.version;
  has_list_identifier = is_there r.list_identifier;
  has_sequence_number = is_there r.sequence_number;
  has_next_update = is_there r.next_update;
  has_extensions = is_there r.extensions;
  version = octets_or_none r.version;
  usages = octets_of r.usages;
  list_identifier = octets_or_none r.list_identifier;
  sequence_number = octets_or_none r.sequence_number;
  this_update = octets_of r.this_update;
  next_update = octets_or_none r.next_update;
  algorithm = octets_of r.algorithm;
  extensions = octets_or_none r.extensions;
}

-- all 0
abbrev pub no_list : TrustList
no_list = record {
  has_version = 0;
  has_list_identifier = 0;
  has_sequence_number = 0;
  has_next_update = 0;
  has_extensions = 0;
  version = nothing;
  usages = nothing;
  list_identifier = nothing;
  sequence_number = nothing;
  this_update = nothing;
  next_update = nothing;
  algorithm = nothing;
  extensions = nothing;
}

-- what der_trust_list answers of the input b
pub record FindsTrustList (b : List ℕ) (new : TrustList) (place status : ℕ) : Type 0 where
  -- DER_NORMAL: these are the ranges of its parts
  pub found : status ≡ NORMAL → (r : TrustListRanges) × AreTrustListRanges b r × (new ≡ trust_list_row r)
  pub why : SaysWhy (without_content trust_list_oid trust_list b) status
  pub none : status ≢ NORMAL → new ≡ no_list
  pub at : IsPlace b place status
  pub range : (status ≢ LOOSE) × ((status ≢ NO_ROOM) × (status ≤ NO_PART))

-- the ranges of an entry
abbrev pub entry_row : EntryRanges → TrustEntry
entry_row r = record { has_attributes = is_there r.attributes; identifier = octets_of r.identifier; attributes = octets_or_none r.attributes }

-- rows are those of all entries of the input's trust list
abbrev pub AreEntryRows : List ℕ → List TrustEntry → Type 0
AreEntryRows b rows = (ranges : List EntryRanges) × AreTrustRows b ranges × (rows ≡ map entry_row ranges)

-- what der_trust_rows answers of the input b and an array
abbrev pub ListsEntries : List ℕ → List TrustEntry → List TrustEntry → ℕ → ℕ → ℕ → Type 0
ListsEntries b = WritesAt (AreEntryRows b) (without_content trust_list_oid trust_list b) b
