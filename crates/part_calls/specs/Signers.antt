-- What the call from C says of the signers of signed data, by its status.
use Rattle.std.specs.Prelude.{◌≡◌, ◌≢◌, ◌≤◌, ℕ, List, ◌++◌, length, drop, map, Option, None, Some}
use Rattle.std.specs.declared.ops.Range.{Range}
use Rattle.signer_ranges.specs.Signers.{AreFound, HasNoRange}
use Rattle.signer_ranges.specs.declared.ranges.SignedRanges.{SignedRanges}
use Rattle.signer_ranges.specs.declared.ranges.SignerRanges.{SignerRanges}
use Rattle.call_values.specs.Ranges.{is_there, nothing, octets_of, octets_or_none}
use Rattle.part_calls.specs.Lists.{IsNotSigned}
use Rattle.call_values.specs.Statuses.{IsPlace, Reasons, SaysWhy}
use Rattle.call_values.specs.declared.ranges.Octets.{Octets}
use Rattle.part_calls.specs.declared.signers.Signer.{Signer}
use Rattle.call_values.specs.declared.status.TheConstants.{NORMAL, LOOSE, NO_ROOM, NO_PART, BAD_ATTRIBUTES}

-- what a signature covers: signed attributes, or the content where there are none
abbrev pub covered_by : Option SignedRanges → Option (Range ℕ) → Octets
covered_by None content = octets_or_none content
covered_by (Some r) content = octets_of r.attributes

-- the digest that the content has to have, where there are signed attributes
abbrev pub digest_in : Option SignedRanges → Octets
digest_in None = nothing
digest_in (Some r) = octets_of r.message_digest

-- DER_BAD_ATTRIBUTES, and all else 0, or the ranges of a signer
abbrev pub signer_row : Option SignerRanges → Signer
signer_row None = record {
  status = BAD_ATTRIBUTES;
  over_attributes = 0;
  has_content = 0;
  has_certificate = 0;
  covered = nothing;
  digest = nothing;
  content = nothing;
  digest_algorithm = nothing;
  signature_algorithm = nothing;
  signature = nothing;
  certificate = nothing;
}
signer_row (Some r) = record {
  status = NORMAL;
  over_attributes = is_there r.signed;
  has_content = is_there r.content;
  has_certificate = is_there r.certificate;
  covered = covered_by r.signed r.content;
  digest = digest_in r.signed;
  content = octets_or_none r.content;
  digest_algorithm = octets_of r.digest_algorithm;
  signature_algorithm = octets_of r.signature_algorithm;
  signature = octets_of r.signature;
  certificate = octets_or_none r.certificate;
}

-- the input is no signed data; DER_NO_RANGE is never answered, as signed data lacks no range
abbrev pub without_signers : List ℕ → ℕ → ℕ → Reasons
without_signers b first most = record { IsUnknown = ⊥; HasNone = IsNotSigned b; IsLong = ⊥; TakesMemory = Unit {0}; LacksRange = HasNoRange b first most; IsAbsent = ⊥ }

-- what der_signer_rows answers of the input b and an array
pub record FindsSigners (b : List ℕ) (first : ℕ) (old new : List Signer) (count place status : ℕ) : Type 0 where
  -- DER_NORMAL: the rows of as many signers as there is room for are at the front of the array, and the rest of it is as it was
  pub found : status ≡ NORMAL → (found : List (Option SignerRanges)) × AreFound b first (length old) count found × (new ≡ map signer_row found ++ drop (length found) old)
  pub why : SaysWhy (without_signers b first (length old)) status
  pub kept : status ≢ NORMAL → (new ≡ old) × (count ≡ 0)
  pub at : IsPlace b place status
  pub range : (status ≢ LOOSE) × ((status ≢ NO_ROOM) × (status ≤ NO_PART))
