-- What the call from C says, by its status, of attributes of a signer that it builds from what it is given.
use Rattle.std.specs.Prelude.{◌≡◌, ◌≢◌, ◌⊎◌, ℕ, List, map}
use Rattle.asn1_core_element.specs.declared.error.Error.TheVariants.{TooLong, Memory}
use Rattle.asn1_leaves_times.specs.TimeContents.{generalized_contents}
use Rattle.asn1_leaves_times.specs.Times.{moment_of_generalized}
use Rattle.asn1_leaves_times.specs.declared.generalized_time.GeneralizedTime.{GeneralizedTime}
use Rattle.call_values.specs.Further.{AreFurther}
use Rattle.call_values.specs.Given.{HasNone, IfGiven, IsOidOf, IsPartOf}
use Rattle.call_values.specs.Statuses.{Reasons, Writes}
use Rattle.cms_calls.specs.declared.built_attributes.AttributesGiven.{AttributesGiven}
use Rattle.cms_calls.specs.declared.built_attributes.NoSet.{NoSet}
use Rattle.cms_calls.specs.declared.built_attributes.NoSet.TheVariants.{Part, NotWritten}
use Rattle.cms_calls.specs.declared.built_attributes.WrongAttribute.{WrongAttribute}
use Rattle.cms_calls.specs.declared.built_attributes.WrongAttribute.TheVariants.{ContentType, MessageDigest, SigningTime, Attributes}
use Rattle.call_values.specs.declared.ranges.Octets.{Octets}
use Rattle.call_values.specs.declared.status.TheConstants.{INVALID, MALFORMED, MISSING, TOO_DEEP}
use Rattle.signed_writers.specs.GivenAttributes.{content_type_of, digest_of}
use Rattle.signed_writers.specs.WrittenAttributes.{AreSignedAttributes, AreTooLong}
use Rattle.signed_writers.specs.declared.attributes.SignedAttributes.{SignedAttributes}
use Rattle.x509_base.specs.Names.{attribute_value}

-- a time, spelled as YYYYMMDDHHMMSSZ
abbrev pub IsTimeOf : List ℕ → Octets → GeneralizedTime → Type 0
IsTimeOf b r t = IsPartOf b r (generalized_contents (moment_of_generalized t))

-- those of the three types
pub record HasParts (b : List ℕ) (row : AttributesGiven) (x : SignedAttributes) : Type 0 where
  pub content_type : IfGiven row.has_content_type (IsOidOf b row.content_type) (content_type_of x)
  pub message_digest : IfGiven row.has_message_digest (IsPartOf b row.message_digest) (digest_of x)
  pub signing_time : IfGiven row.has_signing_time (IsTimeOf b row.signing_time) x.signing_time

-- the attributes that a row gives of the input b
pub record AreGivenBy (b : List ℕ) (row : AttributesGiven) (x : SignedAttributes) : Type 0 where
  pub parts : HasParts b row x
  pub further : AreFurther b row.has_attributes row.attributes (map attribute_value x.attributes.now)

-- the text is the encoding of a SET OF the attributes that the row gives, in the order of DER, and is read as it
abbrev pub HasBuiltAttributes : List ℕ → AttributesGiven → List ℕ → Type 0
HasBuiltAttributes b row text = (x : SignedAttributes) × AreGivenBy b row x × AreSignedAttributes x text

abbrev pub IsTooLong : List ℕ → AttributesGiven → Type 0
IsTooLong b row = (x : SignedAttributes) × AreGivenBy b row x × AreTooLong x

-- the part that can't be written
abbrev pub IsWrong : List ℕ → AttributesGiven → WrongAttribute → Type 0
IsWrong b row ContentType = HasNone (IfGiven row.has_content_type (IsOidOf b row.content_type))
IsWrong b row MessageDigest = HasNone (IfGiven row.has_message_digest (IsPartOf b row.message_digest))
IsWrong b row SigningTime = HasNone (IfGiven row.has_signing_time (IsTimeOf b row.signing_time))
IsWrong b row Attributes = HasNone (AreFurther b row.has_attributes row.attributes)

-- why no set is built
abbrev pub IsNoSet : List ℕ → AttributesGiven → NoSet → Type 0
IsNoSet b row (Part wrong) = IsWrong b row wrong × HasNone (AreGivenBy b row)
IsNoSet b row (NotWritten e) = ((e ≡ TooLong) × IsTooLong b row) ⊎ (e ≡ Memory)

-- a der_attributes_part of der.h
abbrev pub number_of : WrongAttribute → ℕ
number_of ContentType = 1
number_of MessageDigest = 2
number_of SigningTime = 3
number_of Attributes = 4

abbrev pub IsWrongAt : List ℕ → AttributesGiven → ℕ → Type 0
IsWrongAt b row part = (wrong : WrongAttribute) × IsWrong b row wrong × (part ≡ number_of wrong)

abbrev pub without_attributes : List ℕ → AttributesGiven → Reasons
without_attributes b row = record {
  IsUnknown = ⊥;
  HasNone = HasNone (AreGivenBy b row);
  IsLong = IsTooLong b row;
  TakesMemory = Unit {0};
  LacksRange = ⊥;
  IsAbsent = ⊥;
}

-- what der_build_attributes answers
pub record BuildsAttributes (b : List ℕ) (row : AttributesGiven) (old new : List ℕ) (written part status : ℕ) : Type 0 where
  pub writes : Writes (HasBuiltAttributes b row) (without_attributes b row) old new written status
  -- the part with that number can't be written
  pub at : status ≡ INVALID → IsWrongAt b row part
  pub no_part : status ≢ INVALID → part ≡ 0
  -- no other refusal
  pub refused : (status ≢ MALFORMED) × (status ≢ MISSING) × (status ≢ TOO_DEEP)
