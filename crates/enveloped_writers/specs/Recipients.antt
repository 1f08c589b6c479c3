-- What is written of a recipient whose parts are given: a RecipientInfo (RFC 5652, 6.2).
use Rattle.std.specs.Prelude.{◌≡◌, ◌≢◌, ◌≤◌, ◌^◌, ℕ, List, length, None}
use Rattle.std.proofs.Common.{inl, inr, refl}
use Rattle.asn1_borrowed.specs.Written.{IsEncodingOf}
use Rattle.asn1_core.specs.Asn1.{Asn1, CHOICE, Contents, INTEGER_BELOW, OCTET_STRING, SEQUENCE, contents, end, ◌then◌}
use Rattle.asn1_core.specs.Der.{Octets}
use Rattle.asn1_core_element.specs.declared.error.Error.TheVariants.{Memory, TooLong}
use Rattle.enveloped_writers.specs.Elements.{IsRecipient}
use Rattle.enveloped_writers.specs.declared.recipients.NotRecipient.{NotRecipient}
use Rattle.enveloped_writers.specs.declared.recipients.Recipient.{Recipient}
use Rattle.enveloped_writers.specs.declared.recipients.RecipientName.{RecipientName}
use Rattle.enveloped_writers.specs.declared.recipients.RecipientName.TheVariants.{KeyPair, Kek}
use Rattle.enveloped_writers.specs.declared.recipients.RecipientPart.{RecipientPart}
use Rattle.enveloped_writers.specs.declared.recipients.RecipientPart.TheVariants.{Identifier, Algorithm, Whole}
use Rattle.pkcs7_enveloped.specs.Recipients.{recipient_info}
use Rattle.pkcs7_signed_crl.specs.SignerParts.{signer_identifier}
use Rattle.signed_writers.specs.Signers.{HasOne, IsIdentifierIn, IsReadAs}
use Rattle.signed_writers.specs.declared.signers.Identifier.{Identifier as Name}
use Rattle.signer_ranges.specs.SignerRoutes.{ALGORITHM}
use Rattle.x509_base.specs.Algorithms.{algorithm_identifier}

-- KeyTransRecipientInfo ::= SEQUENCE { version CMSVersion, rid RecipientIdentifier, keyEncryptionAlgorithm
--   KeyEncryptionAlgorithmIdentifier, encryptedKey EncryptedKey } (RFC 5652, 6.2.1), where RecipientIdentifier is what
--   SignerIdentifier is
abbrev pub key_transport : Contents
key_transport = contents (INTEGER_BELOW 6 then signer_identifier then SEQUENCE algorithm_identifier then OCTET_STRING then end) refl

-- RecipientInfo ::= CHOICE { ktri KeyTransRecipientInfo, .., kekri [2] KEKRecipientInfo, .. }, of which these two are
-- written from parts
abbrev pub RECIPIENT : Asn1
RECIPIENT = CHOICE (SEQUENCE key_transport) recipient_info refl

-- 0 with issuer and serial number, 2 with a key identifier
abbrev pub transport_version : signer_identifier.Value → ℕ
transport_version (inl i) = 0
transport_version (inr k) = 2

-- the ktri of the key pair's name x, the algorithm a and the encrypted key k
pub record IsTransportIn (x : Name) (a k : Octets) (v : key_transport.Value) : Type 0 where
  pub version : v.0 ≡ transport_version v.1.0
  pub identifier : IsIdentifierIn x v.1.0
  pub algorithm : ALGORITHM.format.Reads 64 a v.1.1.0
  pub key : v.1.1.1.0 ≡ k

-- the kekri of the key identifier x, the algorithm a and the encrypted key k, without date and other
pub record IsKekIn (x a k : Octets) (v : recipient_info.Value) : Type 0 where
  pub version : v.0 ≡ 4
  pub identifier : v.1.0 ≡ (x, (None, (None, tt)))
  pub algorithm : ALGORITHM.format.Reads 64 a v.1.1.0
  pub key : v.1.1.1.0 ≡ k

abbrev pub IsRecipientBy : RecipientName → Octets → Octets → RECIPIENT.Value → Type 0
IsRecipientBy (KeyPair x) algorithm key (inl v) = IsTransportIn x algorithm key v
IsRecipientBy (KeyPair x) algorithm key (inr v) = ⊥
IsRecipientBy (Kek x) algorithm key (inl v) = ⊥
IsRecipientBy (Kek x) algorithm key (inr v) = IsKekIn x.now algorithm key v

-- the recipient whose parts are given
abbrev pub IsRecipientIn : Recipient → RECIPIENT.Value → Type 0
IsRecipientIn x v = IsRecipientBy x.name x.algorithm.now x.key.now v

-- its encoding, which is read as it, and which enveloped data take
abbrev pub IsRecipientText : Recipient → List ℕ → Type 0
IsRecipientText x text = (v : RECIPIENT.Value) × IsRecipientIn x v × IsEncodingOf RECIPIENT.format v text × IsRecipient text

-- a name that identifies a recipient
abbrev pub HasName : RecipientName → Type 0
HasName (KeyPair x) = HasOne (IsIdentifierIn x)
HasName (Kek x) = Unit {0}

-- the part that can't be written: there is no such name, or no algorithm
abbrev pub IsWrongPart : Type 0 → Octets → RecipientPart → Type 0
IsWrongPart Named algorithm Identifier = Named → ⊥
IsWrongPart Named algorithm Algorithm = IsReadAs ALGORITHM.format algorithm → ⊥
IsWrongPart Named algorithm Whole = ⊥

-- why a recipient can't be made of its parts, unless memory was refused
pub record IsNoParts (Named : Type 0) (algorithm : Octets) (w : NotRecipient) : Type 0 where
  pub kind : w.error ≢ TooLong
  pub wrong : w.error ≢ Memory → IsWrongPart Named algorithm w.part

abbrev pub IsTooLong : Recipient → Type 0
IsTooLong x = (v : RECIPIENT.Value) × IsRecipientIn x v × (2 ^ 64 ≤ length (RECIPIENT.format.text v))

-- Why nothing is written. Which error it is at a part is tested.
pub record IsNotRecipient (x : Recipient) (w : NotRecipient) : Type 0 where
  pub long : w.error ≡ TooLong → IsTooLong x
  pub wrong : w.error ≢ TooLong → w.error ≢ Memory → IsWrongPart (HasName x.name) x.algorithm.now w.part
