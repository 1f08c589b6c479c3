-- Where signed data has the parts of its trust list, and of the entries of that.
use Rattle.std.specs.Prelude.{◌≡◌, ℕ, List, [], length, slice_get, Option, None, Some}
use Rattle.asn1_core.specs.Der.{ElementOctets, Octets, OidOctets}
use Rattle.asn1_located.specs.Routes.{again, ◌▸◌}
use Rattle.content_ranges.specs.Contents.{HasContent, HasOther, IsContentRefusal, IsPartAt, IsPartOrNone}
use Rattle.content_ranges.specs.TrustHeads.{trusted_subject}
use Rattle.content_ranges.specs.TrustRoutes.{TrustValue, algorithm, attributes, extensions, identifier, list_identifier, next_update, sequence_number, subject_at, this_update, trust_list, usages, version}
use Rattle.content_ranges.specs.declared.ranges.EntryRanges.{EntryRanges}
use Rattle.content_ranges.specs.declared.ranges.TrustListRanges.{TrustListRanges}
use Rattle.input_ranges.specs.declared.ranges.Refusal.{Refusal}
use Rattle.located_rows.specs.Rows.{AllAt}
use Rattle.pkcs7_content.specs.Oids.{trust_list_oid}
use Rattle.signer_ranges.specs.Signers.{FileValue}
use Rattle.x509_base.specs.Algorithms.{algorithm_identifier}
use Rattle.x509_base.specs.Times.{time}

abbrev pub version_of : TrustValue → Option Octets
version_of w = w.0

abbrev pub usages_of : TrustValue → List OidOctets
usages_of w = w.1.0

abbrev pub list_identifier_of : TrustValue → Option Octets
list_identifier_of w = w.1.1.0

abbrev pub sequence_number_of : TrustValue → Option Octets
sequence_number_of w = w.1.1.1.0

abbrev pub this_update_of : TrustValue → time.Value
this_update_of w = w.1.1.1.1.0

abbrev pub next_update_of : TrustValue → Option time.Value
next_update_of w = w.1.1.1.1.1.0

abbrev pub algorithm_of : TrustValue → algorithm_identifier.Value
algorithm_of w = w.1.1.1.1.1.1.0

abbrev pub subjects_of : TrustValue → Option (List trusted_subject.Value)
subjects_of w = w.1.1.1.1.1.1.1.0

abbrev pub extensions_of : TrustValue → Option ElementOctets
extensions_of w = w.1.1.1.1.1.1.1.1.0

-- all ranges of a list w
pub record AreRangesOf (b : List ℕ) (v : FileValue) (w : TrustValue) (r : TrustListRanges) : Type 0 where
  pub version_at : IsPartOrNone trust_list version b v (version_of w) r.version
  pub usages_at : IsPartAt trust_list usages b v (usages_of w) r.usages
  pub list_identifier_at : IsPartOrNone trust_list list_identifier b v (list_identifier_of w) r.list_identifier
  pub sequence_number_at : IsPartOrNone trust_list sequence_number b v (sequence_number_of w) r.sequence_number
  pub this_update_at : IsPartAt trust_list this_update b v (this_update_of w) r.this_update
  pub next_update_at : IsPartOrNone trust_list next_update b v (next_update_of w) r.next_update
  pub algorithm_at : IsPartAt trust_list algorithm b v (algorithm_of w) r.algorithm
  pub extensions_at : IsPartOrNone trust_list extensions b v (extensions_of w) r.extensions

-- the same of the content of the input, signed data
pub record AreTrustListRanges (b : List ℕ) (r : TrustListRanges) : Type 0 where
  pub value : FileValue
  pub content : TrustValue
  pub has : HasContent trust_list_oid trust_list b value content
  pub are : AreRangesOf b value content r

-- or the content of the signed data isn't a trust list
abbrev pub AreTrustListOrNone : List ℕ → Option TrustListRanges → Type 0
AreTrustListOrNone b None = HasOther trust_list_oid b
AreTrustListOrNone b (Some r) = AreTrustListRanges b r

-- the ranges of the entry with an index
pub record IsEntryAt (b : List ℕ) (v : FileValue) (i : ℕ) (s : trusted_subject.Value) (r : EntryRanges) : Type 0 where
  pub identifier_at : IsPartAt trust_list (subject_at i ▸ again identifier) b v s.0 r.identifier
  pub attributes_at : IsPartOrNone trust_list (subject_at i ▸ again attributes) b v s.1.0 r.attributes

-- the entries, in their order: of a list without trustedSubjects there are none
abbrev pub entries_of : Option (List trusted_subject.Value) → List trusted_subject.Value
entries_of None = []
entries_of (Some entries) = entries

pub record AreEntriesOf (b : List ℕ) (v : FileValue) (w : TrustValue) (rows : List EntryRanges) : Type 0 where
  pub each : AllAt (λ i row. (s : trusted_subject.Value) → slice_get (entries_of (subjects_of w)) i ≡ Some s → IsEntryAt b v i s row) rows
  pub count : length rows ≡ length (entries_of (subjects_of w))

-- the same of the content of the input, signed data
pub record AreTrustRows (b : List ℕ) (rows : List EntryRanges) : Type 0 where
  pub value : FileValue
  pub content : TrustValue
  pub has : HasContent trust_list_oid trust_list b value content
  pub are : AreEntriesOf b value content rows

-- or the content of the signed data isn't a trust list
abbrev pub AreTrustRowsOrNone : List ℕ → Option (List EntryRanges) → Type 0
AreTrustRowsOrNone b None = HasOther trust_list_oid b
AreTrustRowsOrNone b (Some rows) = AreTrustRows b rows

abbrev pub IsTrustListRefusal : List ℕ → Refusal → Type 0
IsTrustListRefusal b = IsContentRefusal trust_list_oid trust_list b
