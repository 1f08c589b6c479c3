-- Where an input has the parts of enveloped data.
use Rattle.std.specs.Prelude.{◌≡◌, ℕ, List, [], ◌∷◌, Option, None, Some}
use Rattle.std.specs.declared.ops.Range.{Range}
use Rattle.asn1_core.specs.Asn1.{ANY}
use Rattle.asn1_core.specs.Der.{ElementOctets, Octets}
use Rattle.asn1_core_format.specs.Whole.{IsValueOf}
use Rattle.input_ranges.specs.Failures.{IsRefusalOf}
use Rattle.input_ranges.specs.declared.ranges.Refusal.{Refusal}
use Rattle.located_rows.specs.Rows.{AreItemsOf, IsRangeOf}
use Rattle.part_ranges.specs.EnvelopeRoutes.{encrypted_content, encryption_algorithm, recipients}
use Rattle.part_ranges.specs.Enveloped.{enveloped_file, EnvelopedFileValue}
use Rattle.part_ranges.specs.declared.envelope_parts.EnvelopePart.{EnvelopePart}
use Rattle.part_ranges.specs.declared.envelope_parts.EnvelopePart.TheVariants.{Recipients, EncryptionAlgorithm, EncryptedContent}
use Rattle.pkcs7_enveloped.specs.Enveloped.{encrypted_content_info}

abbrev pub recipients_of : EnvelopedFileValue → List ElementOctets
recipients_of v = v.1.0.1.1.0

abbrev pub content_info_of : EnvelopedFileValue → encrypted_content_info.Value
content_info_of v = v.1.0.1.1.1.0

-- the octets of encryptedContent, where they are there
abbrev pub encrypted_of : EnvelopedFileValue → Option Octets
encrypted_of v = (content_info_of v).1.1.0

-- one range, that of contentEncryptionAlgorithm, in its place
pub record IsAlgorithmAt (b : List ℕ) (v : EnvelopedFileValue) (ranges : List (Range ℕ)) : Type 0 where
  pub range : Range ℕ
  pub only : ranges ≡ range ∷ []
  pub at : IsRangeOf encryption_algorithm 64 b v (content_info_of v).1.0 range.start range.end

-- one range, that of these octets of encryptedContent, in their place
pub record AreOctetsAt (b : List ℕ) (v : EnvelopedFileValue) (octets : Octets) (ranges : List (Range ℕ)) : Type 0 where
  pub range : Range ℕ
  pub only : ranges ≡ range ∷ []
  pub at : IsRangeOf encrypted_content 64 b v octets range.start range.end

-- or none, where they aren't there
abbrev pub IsContentAt : List ℕ → EnvelopedFileValue → Option Octets → List (Range ℕ) → Type 0
IsContentAt b v None ranges = ranges ≡ []
IsContentAt b v (Some octets) ranges = AreOctetsAt b v octets ranges

-- all items of a part, each in its place
abbrev pub AreEnvelopedIn : EnvelopePart → List ℕ → EnvelopedFileValue → List (Range ℕ) → Type 0
AreEnvelopedIn Recipients b v ranges = AreItemsOf ANY.format ANY.law recipients b v (recipients_of v) ranges
AreEnvelopedIn EncryptionAlgorithm b v ranges = IsAlgorithmAt b v ranges
AreEnvelopedIn EncryptedContent b v ranges = IsContentAt b v (encrypted_of v) ranges

-- the same of the value of the input, enveloped data
pub record AreEnvelopedAt (part : EnvelopePart) (b : List ℕ) (ranges : List (Range ℕ)) : Type 0 where
  pub value : EnvelopedFileValue
  pub is_value : IsValueOf enveloped_file 64 b value
  pub items : AreEnvelopedIn part b value ranges

-- why there are no ranges: the input is no enveloped data, or memory was refused
abbrev pub IsEnvelopedRefusal : List ℕ → Refusal → Type 0
IsEnvelopedRefusal b = IsRefusalOf enveloped_file b ⊥
