-- What the call from C says, by its status, of signed data that it builds from what it is given.
use Rattle.std.specs.Prelude.{◌≡◌, ◌≢◌, ◌⊎◌, ℕ, List, [], Option, None, Some}
use Rattle.std.specs.List.{AllZip}
use Rattle.asn1_core.specs.Der.{IsElement, IsTagByte, option_value}
use Rattle.asn1_core_element.specs.declared.error.Error.TheVariants.{TooLong, Memory}
use Rattle.asn1_core_format.specs.Components.{AllIf}
use Rattle.asn1_core_oid.specs.Known.{data_oid}
use Rattle.attribute_writers.specs.Refusals.{IsWithout}
use Rattle.call_values.specs.Given.{HasNone, IfGiven, IsOidOf, IsPartOf}
use Rattle.call_values.specs.Statuses.{Reasons, Writes}
use Rattle.cms_calls.specs.declared.built_signed.NoSigned.{NoSigned}
use Rattle.cms_calls.specs.declared.built_signed.NoSigned.TheVariants.{Part, NotWritten}
use Rattle.cms_calls.specs.declared.built_signed.SignedGiven.{SignedGiven}
use Rattle.cms_calls.specs.declared.built_signed.SignerGiven.{SignerGiven}
use Rattle.cms_calls.specs.declared.built_signed.WrongPart.{WrongPart}
use Rattle.cms_calls.specs.declared.built_signed.WrongPart.TheVariants as Wrong
use Rattle.cms_calls.specs.declared.built_signed.WrongPart.TheVariants.{ContentType, Crl}
use Rattle.call_values.specs.declared.ranges.Octets.{Octets}
use Rattle.call_values.specs.declared.status.TheConstants.{INVALID, MALFORMED, MISSING, TOO_DEEP}
use Rattle.signed_writers.specs.Signed as Written
use Rattle.signed_writers.specs.Signed.{CanBeWritten, GivenParts, IsChoice, IsConsistent, IsRevocation, IsSignedData}
use Rattle.call_values.specs.Read.{HasOne}
use Rattle.signed_writers.specs.Signers.{AreAttributesIn, IsIdentifierIn, IsReadAs, IsSignerIn}
use Rattle.signed_writers.specs.Values.{content_octets}
use Rattle.signed_writers.specs.declared.content.Content.{Content}
use Rattle.signed_writers.specs.declared.content.Content.TheVariants.{Octets as InOctets, Element}
use Rattle.signed_writers.specs.declared.content.ContentInfo.{ContentInfo}
use Rattle.signed_writers.specs.declared.signers.Identifier.{Identifier as Name}
use Rattle.signed_writers.specs.declared.signers.Identifier.TheVariants.{Certificate, Key}
use Rattle.signed_writers.specs.declared.signers.Signer.{Signer}
use Rattle.signed_writers.specs.declared.signers.SignerPart.{SignerPart}
use Rattle.signed_writers.specs.declared.signers.SignerPart.TheVariants.{Identifier, DigestAlgorithm, SignedAttributes, SignatureAlgorithm, Signature, UnsignedAttributes}
use Rattle.signer_ranges.specs.SignerRoutes.{ALGORITHM, SignerValue}

-- the content, if it is in the file: octets, or an element
abbrev pub IsContentOf : List ℕ → SignedGiven → Option Content → Type 0
IsContentOf b row None = row.has_content ≡ 0
IsContentOf b row (Some (InOctets x)) = (row.has_content ≢ 0) × (row.is_element ≡ 0) × IsPartOf b row.content x.now
IsContentOf b row (Some (Element x)) = (row.has_content ≢ 0) × (row.is_element ≢ 0) × IsPartOf b row.content x.now

-- the content with its type
pub record IsInfoOf (b : List ℕ) (row : SignedGiven) (info : ContentInfo) : Type 0 where
  pub content_type : IsPartOf b row.content_type info.content_type.now
  pub content : IsContentOf b row info.content

-- what names a signer: its certificate, or a key identifier
abbrev pub IsIdentifierOf : List ℕ → SignerGiven → Name → Type 0
IsIdentifierOf b row (Certificate x) = (row.has_key_identifier ≡ 0) × IsPartOf b row.certificate x.now
IsIdentifierOf b row (Key x) = (row.has_key_identifier ≢ 0) × IsPartOf b row.key_identifier x.now

-- the parts of a signer, as octets
pub record HasSignerParts (b : List ℕ) (row : SignerGiven) (x : Signer) : Type 0 where
  pub identifier : IsIdentifierOf b row x.identifier
  pub digest_algorithm : IsPartOf b row.digest_algorithm x.digest_algorithm.now
  pub signed : IfGiven row.has_signed_attributes (IsPartOf b row.signed_attributes) (option_value (λ o. o.now) x.signed_attributes)
  pub signature_algorithm : IsPartOf b row.signature_algorithm x.signature_algorithm.now
  pub signature : IsPartOf b row.signature x.signature.now
  pub unsigned : IfGiven row.has_unsigned_attributes (IsPartOf b row.unsigned_attributes) (option_value (λ o. o.now) x.unsigned_attributes)

-- the signer that is read of them
abbrev pub IsSignerBy : List ℕ → SignerGiven → SignerValue → Type 0
IsSignerBy b row s = (x : Signer) × HasSignerParts b row x × IsSignerIn x s

-- all that a call is given
pub record Rows : Type 0 where
  pub info : SignedGiven
  pub certificates : List Octets
  pub crls : List Octets
  pub signers : List SignerGiven

abbrev pub rows_of : SignedGiven → List Octets → List Octets → List SignerGiven → Rows
rows_of info certificates crls signers = record { info = info; certificates = certificates; crls = crls; signers = signers }

-- the parts that rows give of the input b, in their order
pub record AreGivenBy (b : List ℕ) (rows : Rows) (given : GivenParts) : Type 0 where
  pub info : IsInfoOf b rows.info given.info
  pub certificates : AllZip (IsPartOf b) rows.certificates given.certificates
  pub crls : AllZip (IsPartOf b) rows.crls given.crls
  pub signers : AllZip (IsSignerBy b) rows.signers given.signers

-- the text is the encoding of signed data that has the parts that the rows give, and is read as it
abbrev pub HasBuiltSigned : List ℕ → Rows → List ℕ → Type 0
HasBuiltSigned b rows text = (given : GivenParts) × AreGivenBy b rows given × IsSignedData given text

-- no parts that the rows give can be written
abbrev pub GivesNoSigned : List ℕ → Rows → Type 0
GivesNoSigned b rows = (given : GivenParts) → AreGivenBy b rows given → CanBeWritten given → ⊥

abbrev pub IsTooLong : List ℕ → Rows → Type 0
IsTooLong b rows = (given : GivenParts) × AreGivenBy b rows given × Written.IsTooLong given

-- a range gives octets of which P holds
abbrev pub GivesPart : List ℕ → (List ℕ → Type 0) → Octets → Type 0
GivesPart b P r = (x : List ℕ) × IsPartOf b r x × P x

-- the rows give content that can be written: one element, or none; and none, of the type id-data, where they give no signers
abbrev pub GivesContent : List ℕ → Rows → Type 0
GivesContent b rows =
    (o : Option Content)
    × IsContentOf b rows.info o
    × AllIf (IsElement IsTagByte) (option_value content_octets o)
    × (rows.signers ≡ [] → (o ≡ None) × IsPartOf b rows.info.content_type data_oid)

-- a row gives attributes, or none where the flag is 0
abbrev pub GivesAttributes : List ℕ → ℕ → Octets → Type 0
GivesAttributes b flag r = (o : Option (List ℕ)) × IfGiven flag (IsPartOf b r) o × HasOne (AreAttributesIn o)

-- a row gives that part of a signer
abbrev pub HasSignerPart : List ℕ → SignerPart → SignerGiven → Type 0
HasSignerPart b Identifier row = (x : Name) × IsIdentifierOf b row x × HasOne (IsIdentifierIn x)
HasSignerPart b DigestAlgorithm row = GivesPart b (IsReadAs ALGORITHM.format) row.digest_algorithm
HasSignerPart b SignedAttributes row = GivesAttributes b row.has_signed_attributes row.signed_attributes
HasSignerPart b SignatureAlgorithm row = GivesPart b (IsReadAs ALGORITHM.format) row.signature_algorithm
HasSignerPart b Signature row = HasOne (IsPartOf b row.signature)
HasSignerPart b UnsignedAttributes row = GivesAttributes b row.has_unsigned_attributes row.unsigned_attributes

-- the part can be written: of signed attributes, also with content of the type that a range gives, if it gives one
abbrev pub GivesSignerPart : List ℕ → Octets → SignerPart → SignerGiven → Type 0
GivesSignerPart b type part row = HasSignerPart b part row × (part ≡ SignedAttributes → (s : SignerValue) → IsSignerBy b row s → (t : List ℕ) → IsOidOf b type t → IsConsistent t s)

-- the part that can't be written
abbrev pub IsWrong : List ℕ → Rows → WrongPart → Type 0
IsWrong b rows ContentType = HasNone (IsOidOf b rows.info.content_type)
IsWrong b rows Wrong.Content = GivesContent b rows → ⊥
IsWrong b rows (Wrong.Certificate i) = IsWithout (GivesPart b IsChoice) rows.certificates i
IsWrong b rows (Crl i) = IsWithout (GivesPart b IsRevocation) rows.crls i
IsWrong b rows (Wrong.Signer i part) = IsWithout (GivesSignerPart b rows.info.content_type part) rows.signers i

-- why no signed data is built
abbrev pub IsNoSigned : List ℕ → Rows → NoSigned → Type 0
IsNoSigned b rows (Part wrong) = IsWrong b rows wrong × GivesNoSigned b rows
IsNoSigned b rows (NotWritten e) = ((e ≡ TooLong) × IsTooLong b rows) ⊎ (e ≡ Memory)

-- a der_signed_part of der.h
abbrev pub number_of_signer_part : SignerPart → ℕ
number_of_signer_part Identifier = 5
number_of_signer_part DigestAlgorithm = 6
number_of_signer_part SignedAttributes = 7
number_of_signer_part SignatureAlgorithm = 8
number_of_signer_part Signature = 9
number_of_signer_part UnsignedAttributes = 10

abbrev pub number_of : WrongPart → ℕ
number_of ContentType = 1
number_of Wrong.Content = 2
number_of (Wrong.Certificate i) = 3
number_of (Crl i) = 4
number_of (Wrong.Signer i part) = number_of_signer_part part

abbrev pub index_of : WrongPart → ℕ
index_of ContentType = 0
index_of Wrong.Content = 0
index_of (Wrong.Certificate i) = i
index_of (Crl i) = i
index_of (Wrong.Signer i part) = i

-- the part with that number can't be written; of a certificate, a revocation list or a signer, the one with that index
abbrev pub IsWrongAt : List ℕ → Rows → ℕ → ℕ → Type 0
IsWrongAt b rows index part = (wrong : WrongPart) × IsWrong b rows wrong × (index ≡ index_of wrong) × (part ≡ number_of wrong)

abbrev pub without_signed : List ℕ → Rows → Reasons
without_signed b rows = record {
  IsUnknown = ⊥;
  HasNone = GivesNoSigned b rows;
  IsLong = IsTooLong b rows;
  TakesMemory = Unit {0};
  LacksRange = ⊥;
  IsAbsent = ⊥;
}

-- what der_build_signed answers
pub record BuildsSigned (b : List ℕ) (rows : Rows) (old new : List ℕ) (written index part status : ℕ) : Type 0 where
  pub writes : Writes (HasBuiltSigned b rows) (without_signed b rows) old new written status
  pub at : status ≡ INVALID → IsWrongAt b rows index part
  pub no_part : status ≢ INVALID → (index ≡ 0) × (part ≡ 0)
  -- no other refusal
  pub refused : (status ≢ MALFORMED) × (status ≢ MISSING) × (status ≢ TOO_DEEP)
