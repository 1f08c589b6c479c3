-- What the call from C says, by its status, of indirect data that it builds from what it is given.
use Rattle.std.specs.Prelude.{◌≡◌, ◌≢◌, ◌⊎◌, ◌≤◌, ◌^◌, ℕ, List, length, Some}
use Rattle.asn1_borrowed.specs.Written.{IsEncodingOf}
use Rattle.asn1_core.specs.Asn1.{SEQUENCE}
use Rattle.asn1_core_element.specs.declared.error.Error.TheVariants.{TooLong, Memory}
use Rattle.asn1_leaves_strings.specs.Bits.{IsBits}
use Rattle.content_ranges.specs.Heads.{any_subject}
use Rattle.content_ranges.specs.Indirect.{algorithm_of, digest_of, flags_of, link_of}
use Rattle.content_ranges.specs.IndirectRoutes.{ImageValue, IndirectValue, image_data, indirect_data}
use Rattle.call_values.specs.Given.{HasNone, IfGiven, IsElementOf, IsOidOf, IsPartOf}
use Rattle.call_values.specs.Statuses.{Reasons, Writes}
use Rattle.call_values.specs.declared.not_built.NotBuilt as Built
use Rattle.call_values.specs.declared.not_built.NotBuilt.TheVariants as NotBuilt
use Rattle.cms_calls.specs.declared.built_indirect.NoIndirect.{NoIndirect}
use Rattle.cms_calls.specs.declared.built_indirect.NoIndirect.TheVariants.{Part, NotWritten}
use Rattle.cms_calls.specs.declared.built_indirect.WrongIndirect.{WrongIndirect}
use Rattle.cms_calls.specs.declared.built_indirect.WrongIndirect.TheVariants.{AttributeType, AttributeValue, DigestAlgorithm, Digest, ImageFlags, ImageLink}
use Rattle.cms_calls.specs.declared.contents.Indirect.{Indirect}
use Rattle.call_values.specs.declared.ranges.Octets.{Octets}
use Rattle.call_values.specs.declared.status.TheConstants.{INVALID, MALFORMED, MISSING, TOO_DEEP}
use Rattle.pkcs7_content.specs.Oids.{pe_image_oid}
use Rattle.x509_base.specs.Algorithms.{algorithm_identifier}

-- the contents octets of a BIT STRING
abbrev pub IsBitsOf : List ℕ → Octets → List ℕ → Type 0
IsBitsOf b r x = IsPartOf b r x × IsBits x

-- image data
pub record IsImageOf (b : List ℕ) (row : Indirect) (i : ImageValue) : Type 0 where
  pub flags : IfGiven row.has_image_flags (IsBitsOf b row.image_flags) (flags_of i)
  pub link : IfGiven row.has_image_link (IsElementOf b row.image_link) (link_of i)

-- their encoding, which is read as them
abbrev pub IsImageText : List ℕ → Indirect → List ℕ → Type 0
IsImageText b row x = (i : ImageValue) × IsImageOf b row i × IsEncodingOf image_data i x

-- an attribute whose type and value are given
abbrev pub IsOtherSubjectOf : List ℕ → Indirect → any_subject.Value → Type 0
IsOtherSubjectOf b row u = IsOidOf b row.attribute_type u.0 × IfGiven row.has_attribute_value (IsElementOf b row.attribute_value) u.1.0

-- the attribute of a program, whose value are image data, or another one
abbrev pub HasSubject : List ℕ → Indirect → any_subject.Value → Type 0
HasSubject b row u =
    ((row.is_image ≢ 0) × (u.0 ≡ pe_image_oid) × (x : List ℕ) × IsImageText b row x × (u.1.0 ≡ Some x))
    ⊎ ((row.is_image ≡ 0) × IsOtherSubjectOf b row u)

-- an algorithm identifier
abbrev pub IsAlgorithmOf : List ℕ → Octets → algorithm_identifier.Value → Type 0
IsAlgorithmOf b r w = (x : List ℕ) × IsPartOf b r x × (SEQUENCE algorithm_identifier).format.Reads 64 x w

-- the indirect data that a row gives of the input b
pub record IsIndirectOf (b : List ℕ) (row : Indirect) (v : IndirectValue) : Type 0 where
  pub subject : HasSubject b row v.0
  pub algorithm : IsAlgorithmOf b row.digest_algorithm (algorithm_of v)
  pub digest : IsPartOf b row.digest (digest_of v)

-- the text is the encoding of the indirect data that the row gives, and is read as them
abbrev pub HasBuiltIndirect : List ℕ → Indirect → List ℕ → Type 0
HasBuiltIndirect b row text = (v : IndirectValue) × IsIndirectOf b row v × IsEncodingOf indirect_data v text

-- image data are too long, or all of it
abbrev pub IsTooLong : List ℕ → Indirect → Type 0
IsTooLong b row =
    ((row.is_image ≢ 0) × (i : ImageValue) × IsImageOf b row i × (2 ^ 64 ≤ length (image_data.text i)))
    ⊎ ((v : IndirectValue) × IsIndirectOf b row v × (2 ^ 64 ≤ length (indirect_data.text v)))

-- the part that can't be written
abbrev pub IsWrong : List ℕ → Indirect → WrongIndirect → Type 0
IsWrong b row AttributeType = (row.is_image ≡ 0) × HasNone (IsOidOf b row.attribute_type)
IsWrong b row AttributeValue = (row.is_image ≡ 0) × HasNone (IfGiven row.has_attribute_value (IsElementOf b row.attribute_value))
IsWrong b row DigestAlgorithm = HasNone (IsAlgorithmOf b row.digest_algorithm)
IsWrong b row Digest = HasNone (IsPartOf b row.digest)
IsWrong b row ImageFlags = (row.is_image ≢ 0) × HasNone (IfGiven row.has_image_flags (IsBitsOf b row.image_flags))
IsWrong b row ImageLink = (row.is_image ≢ 0) × HasNone (IfGiven row.has_image_link (IsElementOf b row.image_link))

-- why nothing is built
abbrev pub IsNoIndirect : List ℕ → Indirect → NoIndirect → Type 0
IsNoIndirect b row (Part wrong) = IsWrong b row wrong × HasNone (IsIndirectOf b row)
IsNoIndirect b row (NotWritten e) = ((e ≡ TooLong) × IsTooLong b row) ⊎ (e ≡ Memory)

-- why there is no digest's algorithm
abbrev pub no_algorithm : Built.NotBuilt → NoIndirect
no_algorithm (NotBuilt.Part n) = Part DigestAlgorithm
no_algorithm (NotBuilt.Refused e) = NotWritten e

-- a der_indirect_part of der.h
abbrev pub number_of : WrongIndirect → ℕ
number_of AttributeType = 1
number_of AttributeValue = 2
number_of DigestAlgorithm = 3
number_of Digest = 4
number_of ImageFlags = 5
number_of ImageLink = 6

abbrev pub IsWrongAt : List ℕ → Indirect → ℕ → Type 0
IsWrongAt b row part = (wrong : WrongIndirect) × IsWrong b row wrong × (part ≡ number_of wrong)

abbrev pub without_indirect : List ℕ → Indirect → Reasons
without_indirect b row = record {
  IsUnknown = ⊥;
  HasNone = HasNone (IsIndirectOf b row);
  IsLong = IsTooLong b row;
  TakesMemory = Unit {0};
  LacksRange = ⊥;
  IsAbsent = ⊥;
}

-- what der_build_indirect answers
pub record BuildsIndirect (b : List ℕ) (row : Indirect) (old new : List ℕ) (written part status : ℕ) : Type 0 where
  pub writes : Writes (HasBuiltIndirect b row) (without_indirect b row) old new written status
  -- the part with that number can't be written
  pub at : status ≡ INVALID → IsWrongAt b row part
  pub no_part : status ≢ INVALID → part ≡ 0
  -- no other refusal
  pub refused : (status ≢ MALFORMED) × (status ≢ MISSING) × (status ≢ TOO_DEEP)
