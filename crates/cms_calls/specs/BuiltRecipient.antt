-- What the call from C says, by its status, of a recipient that it builds from what it is given.
use Rattle.std.specs.Prelude.{◌≡◌, ◌≢◌, ◌⊎◌, ℕ, List}
use Rattle.asn1_core_element.specs.declared.error.Error.TheVariants.{TooLong, Memory}
use Rattle.call_values.specs.Given.{HasNone, IsPartOf}
use Rattle.call_values.specs.Read.{IsReadAs}
use Rattle.call_values.specs.Statuses.{Reasons, Writes}
use Rattle.cms_calls.specs.declared.built_recipient.NoRecipient.{NoRecipient}
use Rattle.cms_calls.specs.declared.built_recipient.NoRecipient.TheVariants.{Part, NotWritten}
use Rattle.cms_calls.specs.declared.built_recipient.RecipientGiven.{RecipientGiven}
use Rattle.cms_calls.specs.declared.built_recipient.WrongRecipient.{WrongRecipient}
use Rattle.cms_calls.specs.declared.built_recipient.WrongRecipient.TheVariants as Wrong
use Rattle.call_values.specs.declared.ranges.Octets.{Octets}
use Rattle.call_values.specs.declared.status.TheConstants.{INVALID, MALFORMED, MISSING, TOO_DEEP}
use Rattle.enveloped_writers.specs.Recipients as Written
use Rattle.enveloped_writers.specs.Recipients.{HasName, IsRecipientIn, IsRecipientText}
use Rattle.enveloped_writers.specs.declared.recipients.NotRecipient.{NotRecipient}
use Rattle.enveloped_writers.specs.declared.recipients.Recipient.{Recipient}
use Rattle.enveloped_writers.specs.declared.recipients.RecipientName.{RecipientName}
use Rattle.enveloped_writers.specs.declared.recipients.RecipientName.TheVariants.{KeyPair, Kek}
use Rattle.enveloped_writers.specs.declared.recipients.RecipientPart.{RecipientPart}
use Rattle.enveloped_writers.specs.declared.recipients.RecipientPart.TheVariants.{Identifier, Algorithm, Whole}
use Rattle.signed_writers.specs.declared.signers.Identifier.TheVariants.{Certificate, Key}
use Rattle.signer_ranges.specs.SignerRoutes.{ALGORITHM}

-- what names the recipient: its certificate, its key identifier, or the identifier of a key-encryption key
abbrev pub IsNameOf : List ℕ → RecipientGiven → RecipientName → Type 0
IsNameOf b row (KeyPair (Certificate x)) = (row.is_kek ≡ 0) × (row.has_key_identifier ≡ 0) × IsPartOf b row.certificate x.now
IsNameOf b row (KeyPair (Key x)) = (row.is_kek ≡ 0) × (row.has_key_identifier ≢ 0) × IsPartOf b row.key_identifier x.now
IsNameOf b row (Kek x) = (row.is_kek ≢ 0) × IsPartOf b row.key_identifier x.now

-- the parts of the recipient that a row gives of the input b
pub record HasParts (b : List ℕ) (row : RecipientGiven) (x : Recipient) : Type 0 where
  pub name : IsNameOf b row x.name
  pub algorithm : IsPartOf b row.algorithm x.algorithm.now
  pub key : IsPartOf b row.key x.key.now

-- the text is the encoding of the recipient whose parts the row gives, and is read as it
abbrev pub HasBuiltRecipient : List ℕ → RecipientGiven → List ℕ → Type 0
HasBuiltRecipient b row text = (x : Recipient) × HasParts b row x × IsRecipientText x text

-- the row gives no recipient
abbrev pub GivesNoRecipient : List ℕ → RecipientGiven → Type 0
GivesNoRecipient b row = (x : Recipient) → HasParts b row x → HasNone (IsRecipientIn x)

abbrev pub IsTooLong : List ℕ → RecipientGiven → Type 0
IsTooLong b row = (x : Recipient) × HasParts b row x × Written.IsTooLong x

-- the row gives a name that identifies a recipient
abbrev pub GivesName : List ℕ → RecipientGiven → Type 0
GivesName b row = (x : RecipientName) × IsNameOf b row x × HasName x

-- a range gives an algorithm
abbrev pub GivesAlgorithm : List ℕ → Octets → Type 0
GivesAlgorithm b r = (x : List ℕ) × IsPartOf b r x × IsReadAs ALGORITHM.format x

-- the part that can't be written
abbrev pub IsWrong : List ℕ → RecipientGiven → WrongRecipient → Type 0
IsWrong b row Wrong.Identifier = GivesName b row → ⊥
IsWrong b row Wrong.Algorithm = GivesAlgorithm b row.algorithm → ⊥
IsWrong b row Wrong.Key = HasNone (IsPartOf b row.key)

-- a range isn't in the input
abbrev pub IsUngiven : List ℕ → RecipientGiven → WrongRecipient → Type 0
IsUngiven b row Wrong.Identifier = HasNone (IsNameOf b row)
IsUngiven b row Wrong.Algorithm = HasNone (IsPartOf b row.algorithm)
IsUngiven b row Wrong.Key = HasNone (IsPartOf b row.key)

-- why no recipient is built
abbrev pub IsNoRecipient : List ℕ → RecipientGiven → NoRecipient → Type 0
IsNoRecipient b row (Part wrong) = IsWrong b row wrong × GivesNoRecipient b row
IsNoRecipient b row (NotWritten e) = ((e ≡ TooLong) × IsTooLong b row) ⊎ (e ≡ Memory)

-- the part of a recipient that can't be written. The whole never is one, so it may be any
abbrev pub wrong_part : RecipientPart → WrongRecipient
wrong_part Identifier = Wrong.Identifier
wrong_part Algorithm = Wrong.Algorithm
wrong_part Whole = Wrong.Algorithm

-- what is said where writing was refused
abbrev pub IsWhy : NotRecipient → NoRecipient → Type 0
IsWhy wrong (Part part) = (wrong.error ≢ TooLong) × (wrong.error ≢ Memory) × (part ≡ wrong_part wrong.part)
IsWhy wrong (NotWritten e) = (e ≡ wrong.error) × ((e ≡ TooLong) ⊎ (e ≡ Memory))

-- a der_recipient_part of der.h
abbrev pub number_of : WrongRecipient → ℕ
number_of Wrong.Identifier = 1
number_of Wrong.Algorithm = 2
number_of Wrong.Key = 3

abbrev pub IsWrongAt : List ℕ → RecipientGiven → ℕ → Type 0
IsWrongAt b row part = (wrong : WrongRecipient) × IsWrong b row wrong × (part ≡ number_of wrong)

abbrev pub without_recipient : List ℕ → RecipientGiven → Reasons
without_recipient b row = record {
  IsUnknown = ⊥;
  HasNone = GivesNoRecipient b row;
  IsLong = IsTooLong b row;
  TakesMemory = Unit {0};
  LacksRange = ⊥;
  IsAbsent = ⊥;
}

-- what der_build_recipient answers
pub record BuildsRecipient (b : List ℕ) (row : RecipientGiven) (old new : List ℕ) (written part status : ℕ) : Type 0 where
  pub writes : Writes (HasBuiltRecipient b row) (without_recipient b row) old new written status
  -- the part with that number can't be written
  pub at : status ≡ INVALID → IsWrongAt b row part
  pub no_part : status ≢ INVALID → part ≡ 0
  -- no other refusal
  pub refused : (status ≢ MALFORMED) × (status ≢ MISSING) × (status ≢ TOO_DEEP)
