-- What the call from C says, by its status, of an AuthenticatedSafe that it builds from what it is given.
use Rattle.std.specs.Prelude.{◌≡◌, ◌≢◌, ◌⊎◌, ◌≤◌, ◌^◌, ℕ, List, length, Some}
use Rattle.std.specs.List.{AllZip}
use Rattle.asn1_core.specs.Der.{octet_string}
use Rattle.asn1_core_oid.specs.Known.{data_oid}
use Rattle.attribute_writers.specs.Refusals.{IsFirstWithout}
use Rattle.bag_ranges.specs.RawContentInfos.{raw_content_info}
use Rattle.call_values.specs.Given.{IsPartOf}
use Rattle.store_calls.specs.Levels.{HasLevels}
use Rattle.call_values.specs.Read.{HasOne}
use Rattle.call_values.specs.Statuses.{Reasons, Writes}
use Rattle.store_calls.specs.declared.built_contents.ContentGiven.{ContentGiven}
use Rattle.call_values.specs.declared.status.TheConstants.{INVALID, MALFORMED, MISSING, TOO_DEEP}
use Rattle.store_writers.specs.Written.{CONTENT, CONTENTS, IsAuthenticatedSafeOf}

-- data, whose octets are a SafeContents
abbrev pub IsDataOf : List ℕ → raw_content_info.Value → Type 0
IsDataOf x v = HasLevels 65 x × (v ≡ (data_oid, (Some (octet_string.text x), tt)))

-- a ContentInfo of another type, which is written as it is
abbrev pub IsInfoOf : List ℕ → raw_content_info.Value → Type 0
IsInfoOf x v = CONTENT.format.Reads 64 x v × (v.0 ≢ data_oid) × (x ≡ CONTENT.format.text v)

abbrev pub IsContentOf : ℕ → List ℕ → raw_content_info.Value → Type 0
IsContentOf is_data x v = ((is_data ≢ 0) × IsDataOf x v) ⊎ ((is_data ≡ 0) × IsInfoOf x v)

-- the content that a row gives of the input b
abbrev pub IsContentBy : List ℕ → ContentGiven → raw_content_info.Value → Type 0
IsContentBy b row v = (x : List ℕ) × IsPartOf b row.octets x × IsContentOf row.is_data x v

abbrev pub GivesContent : List ℕ → ContentGiven → Type 0
GivesContent b row = HasOne (IsContentBy b row)

-- a content has one part
abbrev pub any_part : ContentGiven → ℕ → Type 0
any_part row n = Unit {0}

-- the text is the encoding of an AuthenticatedSafe of the contents that the rows give, and is read as it
abbrev pub HasBuiltSafe : List ℕ → List ContentGiven → List ℕ → Type 0
HasBuiltSafe b rows text = (contents : List raw_content_info.Value) × AllZip (IsContentBy b) rows contents × IsAuthenticatedSafeOf contents text

abbrev pub IsTooLong : List ℕ → List ContentGiven → Type 0
IsTooLong b rows = (contents : List raw_content_info.Value) × AllZip (IsContentBy b) rows contents × (2 ^ 64 ≤ length (CONTENTS.format.text contents))

abbrev pub without_safe : List ℕ → List ContentGiven → Reasons
without_safe b rows = record {
  IsUnknown = ⊥;
  HasNone = (index : ℕ) × IsFirstWithout (GivesContent b) rows index;
  IsLong = IsTooLong b rows;
  TakesMemory = Unit {0};
  LacksRange = ⊥;
  IsAbsent = ⊥;
}

-- what der_build_safe answers
pub record BuildsSafe (b : List ℕ) (rows : List ContentGiven) (old new : List ℕ) (written content status : ℕ) : Type 0 where
  pub writes : Writes (HasBuiltSafe b rows) (without_safe b rows) old new written status
  -- the row with that index gives no content, and those before it do
  pub at : status ≡ INVALID → IsFirstWithout (GivesContent b) rows content
  pub no_content : status ≢ INVALID → content ≡ 0
  -- no other refusal
  pub refused : (status ≢ MALFORMED) × (status ≢ MISSING) × (status ≢ TOO_DEEP)
