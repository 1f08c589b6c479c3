-- What the calls from C say, by their status, of where an input has all items of a part, or a signer's attributes.
use Rattle.std.specs.Prelude.{◌≡◌, ◌≢◌, ◌⊎◌, ℕ, List, zero, suc, None, Some}
use Rattle.std.specs.declared.ops.Range.{Range}
use Rattle.part_ranges.specs.EnvelopeParts.{AreEnvelopedAt}
use Rattle.part_ranges.specs.Enveloped.{enveloped_file, EnvelopedFileValue}
use Rattle.part_ranges.specs.Ranges.{AreCertificatesAt}
use Rattle.part_ranges.specs.SignerAttributes.{AreAttributesAt}
use Rattle.part_ranges.specs.declared.attributes.AttributeSet.{AttributeSet}
use Rattle.part_ranges.specs.declared.attributes.AttributeSet.TheVariants.{Signed, Unsigned}
use Rattle.part_ranges.specs.declared.envelope_parts.EnvelopePart.{EnvelopePart}
use Rattle.part_ranges.specs.declared.envelope_parts.EnvelopePart.TheVariants.{Recipients, EncryptionAlgorithm, EncryptedContent}
use Rattle.signer_ranges.specs.Signers.{FileValue, signed_file}
use Rattle.call_values.specs.Statuses.{Reasons, WritesAt}
use Rattle.call_values.specs.declared.ranges.Octets.{Octets}
use Rattle.call_values.specs.Ranges.{AreRowsOf}

-- DER_PART_CERTIFICATE
abbrev pub certificates : ℕ
certificates = 1

-- DER_PART_RECIPIENT, DER_PART_ENCRYPTION_ALGORITHM, DER_PART_ENCRYPTED_CONTENT
abbrev pub number_of : EnvelopePart → ℕ
number_of Recipients = 16
number_of EncryptionAlgorithm = 17
number_of EncryptedContent = 18

-- the ranges of all items of the part with that number
abbrev pub AreItemsAt : ℕ → List ℕ → List (Range ℕ) → Type 0
AreItemsAt number b ranges = ((number ≡ certificates) × AreCertificatesAt b ranges) ⊎ ((part : EnvelopePart) × (number ≡ number_of part) × AreEnvelopedAt part b ranges)

-- the input isn't signed data, or no enveloped data
abbrev pub IsNotSigned : List ℕ → Type 0
IsNotSigned b = (v : FileValue) → signed_file.Reads 64 b v → ⊥

abbrev pub IsNotEnveloped : List ℕ → Type 0
IsNotEnveloped b = (v : EnvelopedFileValue) → enveloped_file.Reads 64 b v → ⊥

-- the input isn't what has the part with that number
abbrev pub HasNoItems : ℕ → List ℕ → Type 0
HasNoItems number b = ((number ≡ certificates) × IsNotSigned b) ⊎ ((part : EnvelopePart) × (number ≡ number_of part) × IsNotEnveloped b)

-- no part whose items are listed has that number
pub record IsNotListed (number : ℕ) : Type 0 where
  pub certificate : number ≢ certificates
  pub envelope : (part : EnvelopePart) → number ≢ number_of part

-- DER_NO_RANGE is never answered, as each item has its place
abbrev pub without_items : ℕ → List ℕ → Reasons
without_items number b = record { IsUnknown = IsNotListed number; HasNone = HasNoItems number b; IsLong = ⊥; TakesMemory = Unit {0}; LacksRange = ⊥; IsAbsent = ⊥ }

-- what der_part_ranges answers of the input b and an array
abbrev pub ListsRanges : ℕ → List ℕ → List Octets → List Octets → ℕ → ℕ → ℕ → Type 0
ListsRanges number b = WritesAt (AreRowsOf (AreItemsAt number b)) (without_items number b) b

-- the attributes that a number asks for: unsigned ones, or, unless it is 0, signed ones
abbrev pub set_of : ℕ → AttributeSet
set_of zero = Unsigned
set_of (suc n) = Signed

-- at DER_NO_PART there are fewer signers
abbrev pub without_attributes : AttributeSet → ℕ → List ℕ → Reasons
without_attributes set index b = record { IsUnknown = ⊥; HasNone = IsNotSigned b; IsLong = ⊥; TakesMemory = Unit {0}; LacksRange = ⊥; IsAbsent = AreAttributesAt set index b None }

-- what der_attribute_ranges answers of the input b and an array
abbrev pub ListsAttributes : ℕ → ℕ → List ℕ → List Octets → List Octets → ℕ → ℕ → ℕ → Type 0
ListsAttributes signed index b = WritesAt (AreRowsOf (λ ranges. AreAttributesAt (set_of signed) index b (Some ranges))) (without_attributes (set_of signed) index b) b
