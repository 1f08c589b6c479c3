-- What is written of given enveloped data: the encoding of a ContentInfo whose parts are these (RFC 5652, 3 and 6.1).
use Rattle.std.specs.Prelude.{◌≡◌, ◌≢◌, ◌≤◌, ◌^◌, ℕ, List, [], length, Option, None, Some}
use Rattle.std.specs.List.{AllByRecursion}
use Rattle.asn1_borrowed.specs.Written.{IsEncodingOf}
use Rattle.asn1_core.specs.Der.{ElementOctets, IsOid, Octets, option_value}
use Rattle.asn1_core_element.specs.declared.error.Error.TheVariants.{Memory, TooLong}
use Rattle.asn1_sets.specs.Order.{IsInOrder}
use Rattle.attribute_writers.specs.Refusals.{IsFirstWithout}
use Rattle.enveloped_writers.specs.Elements.{IsRecipient, IsVersion}
use Rattle.enveloped_writers.specs.declared.enveloped.Enveloped.{Enveloped}
use Rattle.enveloped_writers.specs.declared.enveloped.EnvelopedPart.{EnvelopedPart}
use Rattle.enveloped_writers.specs.declared.enveloped.EnvelopedPart.TheVariants.{ContentType, Algorithm, Recipient, Recipients, Attributes, Whole}
use Rattle.enveloped_writers.specs.declared.enveloped.NotEnveloped.{NotEnveloped}
use Rattle.part_ranges.specs.EnvelopeParts.{content_info_of, encrypted_of, recipients_of}
use Rattle.part_ranges.specs.Enveloped.{EnvelopedFileValue, enveloped_file}
use Rattle.pkcs7_enveloped.specs.Enveloped.{originator_info}
use Rattle.signed_writers.specs.Signers.{AreAttributesIn, HasOne, IsReadAs}
use Rattle.signer_ranges.specs.SignerRoutes.{ALGORITHM}
use Rattle.x509_base.specs.Names.{attribute}

abbrev pub version_of : EnvelopedFileValue → ℕ
version_of v = v.1.0.0

abbrev pub originator_of : EnvelopedFileValue → Option originator_info.Value
originator_of v = v.1.0.1.0

abbrev pub attributes_of : EnvelopedFileValue → Option (List attribute.Value)
attributes_of v = v.1.0.1.1.1.1.0

-- attributes of a set that isn't empty, or none
abbrev pub AreUnprotected : Option Octets → Option (List attribute.Value) → Type 0
AreUnprotected given None = given ≡ None
AreUnprotected given (Some all) = (given ≢ None) × AreAttributesIn given all

abbrev pub attributes_in : Enveloped → Option Octets
attributes_in x = option_value (λ o. o.now) x.attributes

-- the parts that are given, and the recipients es
pub record AreParts (x : Enveloped) (es : List ElementOctets) (v : EnvelopedFileValue) : Type 0 where
  pub version : IsVersion (attributes_in x) es (version_of v)
  pub originator : originator_of v ≡ None
  pub recipients : IsInOrder es (recipients_of v)
  pub content_type : (content_info_of v).0 ≡ x.content_type.now
  pub algorithm : ALGORITHM.format.Reads 64 x.algorithm.now (content_info_of v).1.0
  pub content : encrypted_of v ≡ option_value (λ o. o.now) x.content
  pub attributes : AreUnprotected (attributes_in x) (attributes_of v)

pub record CanBeWritten (x : Enveloped) (es : List ElementOctets) : Type 0 where
  pub content_type : IsOid x.content_type.now
  pub algorithm : IsReadAs ALGORITHM.format x.algorithm.now
  pub some : es ≢ []
  pub recipients : AllByRecursion IsRecipient es
  pub attributes : HasOne (AreAttributesIn (attributes_in x))

-- the parts can be written, and the text is the encoding of enveloped data that have them, and is read as them
pub record IsEnvelopedData (x : Enveloped) (recipients : List ElementOctets) (text : List ℕ) : Type 0 where
  pub can : CanBeWritten x recipients
  pub value : EnvelopedFileValue
  pub parts : AreParts x recipients value
  pub encoding : IsEncodingOf enveloped_file value text

abbrev pub IsTooLong : Enveloped → List ElementOctets → Type 0
IsTooLong x recipients = (text : List ℕ) × IsEnvelopedData x recipients text × (2 ^ 64 ≤ length text)

-- the part that can't be written; of recipients the first that can't
abbrev pub IsWrong : Enveloped → List ElementOctets → EnvelopedPart → ℕ → Type 0
IsWrong x recipients ContentType index = (index ≡ 0) × (IsOid x.content_type.now → ⊥)
IsWrong x recipients Algorithm index = (index ≡ 0) × (IsReadAs ALGORITHM.format x.algorithm.now → ⊥)
IsWrong x recipients Recipient index = IsFirstWithout IsRecipient recipients index
IsWrong x recipients Recipients index = (index ≡ 0) × (recipients ≡ [])
IsWrong x recipients Attributes index = (index ≡ 0) × (HasOne (AreAttributesIn (attributes_in x)) → ⊥)
IsWrong x recipients Whole index = ⊥

-- Why nothing is written. Which error it is at a part is tested.
pub record IsNotEnveloped (x : Enveloped) (recipients : List ElementOctets) (w : NotEnveloped) : Type 0 where
  pub long : w.error ≡ TooLong → IsTooLong x recipients
  pub wrong : w.error ≢ TooLong → w.error ≢ Memory → IsWrong x recipients w.part w.index
