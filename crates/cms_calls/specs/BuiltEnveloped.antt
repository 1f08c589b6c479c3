-- What the call from C says, by its status, of enveloped data that it builds from what it is given.
use Rattle.std.specs.Prelude.{◌≡◌, ◌≢◌, ◌⊎◌, ℕ, List, [], Option}
use Rattle.std.specs.List.{AllZip}
use Rattle.asn1_core.specs.Der.{ElementOctets, option_value}
use Rattle.asn1_core_element.specs.declared.error.Error.TheVariants.{TooLong, Memory}
use Rattle.attribute_writers.specs.Refusals.{IsFirstWithout, IsWithout}
use Rattle.cms_calls.specs.BuiltRecipient.{GivesAlgorithm}
use Rattle.cms_calls.specs.BuiltSigned.{GivesPart}
use Rattle.call_values.specs.Given.{HasNone, IfGiven, IsOidOf, IsPartOf}
use Rattle.call_values.specs.Read.{HasOne}
use Rattle.call_values.specs.Statuses.{Reasons, Writes}
use Rattle.cms_calls.specs.declared.built_enveloped.EnvelopedGiven.{EnvelopedGiven}
use Rattle.cms_calls.specs.declared.built_enveloped.NoEnveloped.{NoEnveloped}
use Rattle.cms_calls.specs.declared.built_enveloped.NoEnveloped.TheVariants.{Part, NotWritten}
use Rattle.cms_calls.specs.declared.built_enveloped.WrongEnveloped.{WrongEnveloped}
use Rattle.cms_calls.specs.declared.built_enveloped.WrongEnveloped.TheVariants as Wrong
use Rattle.call_values.specs.declared.ranges.Octets.{Octets}
use Rattle.call_values.specs.declared.status.TheConstants.{INVALID, MALFORMED, MISSING, TOO_DEEP}
use Rattle.enveloped_writers.specs.Elements.{IsRecipient}
use Rattle.enveloped_writers.specs.Enveloped as Written
use Rattle.enveloped_writers.specs.Enveloped.{CanBeWritten, IsEnvelopedData, attributes_in}
use Rattle.enveloped_writers.specs.declared.enveloped.Enveloped.{Enveloped}
use Rattle.enveloped_writers.specs.declared.enveloped.EnvelopedPart.{EnvelopedPart}
use Rattle.enveloped_writers.specs.declared.enveloped.EnvelopedPart.TheVariants.{ContentType, Algorithm, Recipient, Recipients, Attributes, Whole}
use Rattle.enveloped_writers.specs.declared.enveloped.NotEnveloped.{NotEnveloped}
use Rattle.signed_writers.specs.Signers.{AreAttributesIn}

-- all that a row gives of the input b
pub record HasInfo (b : List ℕ) (row : EnvelopedGiven) (x : Enveloped) : Type 0 where
  pub content_type : IsPartOf b row.content_type x.content_type.now
  pub algorithm : IsPartOf b row.algorithm x.algorithm.now
  pub content : IfGiven row.has_content (IsPartOf b row.content) (option_value (λ o. o.now) x.content)
  pub attributes : IfGiven row.has_attributes (IsPartOf b row.attributes) (attributes_in x)

-- the same, and the recipients that ranges give, in their order
pub record AreGivenBy (b : List ℕ) (row : EnvelopedGiven) (parts : List Octets) (x : Enveloped) (es : List ElementOctets) : Type 0 where
  pub info : HasInfo b row x
  pub recipients : AllZip (IsPartOf b) parts es

-- the text is the encoding of enveloped data that have the parts that are given, and is read as them
abbrev pub HasBuiltEnveloped : List ℕ → EnvelopedGiven → List Octets → List ℕ → Type 0
HasBuiltEnveloped b row parts text = (x : Enveloped) × (recipients : List ElementOctets) × AreGivenBy b row parts x recipients × IsEnvelopedData x recipients text

-- no enveloped data of what is given can be written
abbrev pub GivesNoEnveloped : List ℕ → EnvelopedGiven → List Octets → Type 0
GivesNoEnveloped b row parts = (x : Enveloped) (recipients : List ElementOctets) → AreGivenBy b row parts x recipients → CanBeWritten x recipients → ⊥

abbrev pub IsTooLong : List ℕ → EnvelopedGiven → List Octets → Type 0
IsTooLong b row parts = (x : Enveloped) × (recipients : List ElementOctets) × AreGivenBy b row parts x recipients × Written.IsTooLong x recipients

-- the row gives a set of attributes that isn't empty, or says that there are none
abbrev pub GivesAttributes : List ℕ → EnvelopedGiven → Type 0
GivesAttributes b row = (o : Option (List ℕ)) × IfGiven row.has_attributes (IsPartOf b row.attributes) o × HasOne (AreAttributesIn o)

-- the part that can't be written
abbrev pub IsWrong : List ℕ → EnvelopedGiven → List Octets → WrongEnveloped → Type 0
IsWrong b row parts Wrong.ContentType = HasNone (IsOidOf b row.content_type)
IsWrong b row parts Wrong.Algorithm = GivesAlgorithm b row.algorithm → ⊥
IsWrong b row parts Wrong.Content = HasNone (IfGiven row.has_content (IsPartOf b row.content))
IsWrong b row parts (Wrong.Recipient i) = IsWithout (GivesPart b IsRecipient) parts i
IsWrong b row parts Wrong.Recipients = parts ≡ []
IsWrong b row parts Wrong.Attributes = GivesAttributes b row → ⊥

-- a range isn't in the input
abbrev pub IsUngiven : List ℕ → EnvelopedGiven → WrongEnveloped → Type 0
IsUngiven b row Wrong.ContentType = HasNone (IsPartOf b row.content_type)
IsUngiven b row Wrong.Algorithm = HasNone (IsPartOf b row.algorithm)
IsUngiven b row Wrong.Content = HasNone (IfGiven row.has_content (IsPartOf b row.content))
IsUngiven b row (Wrong.Recipient i) = ⊥
IsUngiven b row Wrong.Recipients = ⊥
IsUngiven b row Wrong.Attributes = HasNone (IfGiven row.has_attributes (IsPartOf b row.attributes))

-- the range of a recipient isn't in the input, or memory was refused
abbrev pub IsNoRecipientAt : List ℕ → List Octets → NoEnveloped → Type 0
IsNoRecipientAt b parts (Part wrong) = (index : ℕ) × (wrong ≡ Wrong.Recipient index) × IsFirstWithout (λ part. HasOne (IsPartOf b part)) parts index
IsNoRecipientAt b parts (NotWritten e) = e ≡ Memory

-- why no enveloped data are built
abbrev pub IsNoEnveloped : List ℕ → EnvelopedGiven → List Octets → NoEnveloped → Type 0
IsNoEnveloped b row parts (Part wrong) = IsWrong b row parts wrong × GivesNoEnveloped b row parts
IsNoEnveloped b row parts (NotWritten e) = ((e ≡ TooLong) × IsTooLong b row parts) ⊎ (e ≡ Memory)

-- the part of enveloped data that can't be written. The whole never is one, so it may be any
abbrev pub wrong_part : EnvelopedPart → ℕ → WrongEnveloped
wrong_part ContentType index = Wrong.ContentType
wrong_part Algorithm index = Wrong.Algorithm
wrong_part Recipient index = Wrong.Recipient index
wrong_part Recipients index = Wrong.Recipients
wrong_part Attributes index = Wrong.Attributes
wrong_part Whole index = Wrong.Attributes

-- what is said where writing was refused
abbrev pub IsWhy : NotEnveloped → NoEnveloped → Type 0
IsWhy wrong (Part part) = (wrong.error ≢ TooLong) × (wrong.error ≢ Memory) × (part ≡ wrong_part wrong.part wrong.index)
IsWhy wrong (NotWritten e) = (e ≡ wrong.error) × ((e ≡ TooLong) ⊎ (e ≡ Memory))

-- a der_enveloped_part of der.h
abbrev pub number_of : WrongEnveloped → ℕ
number_of Wrong.ContentType = 1
number_of Wrong.Algorithm = 2
number_of Wrong.Content = 3
number_of (Wrong.Recipient i) = 4
number_of Wrong.Recipients = 5
number_of Wrong.Attributes = 6

abbrev pub index_of : WrongEnveloped → ℕ
index_of Wrong.ContentType = 0
index_of Wrong.Algorithm = 0
index_of Wrong.Content = 0
index_of (Wrong.Recipient i) = i
index_of Wrong.Recipients = 0
index_of Wrong.Attributes = 0

-- the part with that number can't be written, of a recipient the one with that index
abbrev pub IsWrongAt : List ℕ → EnvelopedGiven → List Octets → ℕ → ℕ → Type 0
IsWrongAt b row parts index part = (wrong : WrongEnveloped) × IsWrong b row parts wrong × (index ≡ index_of wrong) × (part ≡ number_of wrong)

abbrev pub without_enveloped : List ℕ → EnvelopedGiven → List Octets → Reasons
without_enveloped b row parts = record {
  IsUnknown = ⊥;
  HasNone = GivesNoEnveloped b row parts;
  IsLong = IsTooLong b row parts;
  TakesMemory = Unit {0};
  LacksRange = ⊥;
  IsAbsent = ⊥;
}

-- what der_build_enveloped answers
pub record BuildsEnveloped (b : List ℕ) (row : EnvelopedGiven) (parts : List Octets) (old new : List ℕ) (written index part status : ℕ) : Type 0 where
  pub writes : Writes (HasBuiltEnveloped b row parts) (without_enveloped b row parts) old new written status
  pub at : status ≡ INVALID → IsWrongAt b row parts index part
  pub no_part : status ≢ INVALID → (index ≡ 0) × (part ≡ 0)
  -- no other refusal
  pub refused : (status ≢ MALFORMED) × (status ≢ MISSING) × (status ≢ TOO_DEEP)
