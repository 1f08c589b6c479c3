-- What is written of given signed data: the encoding of a ContentInfo whose parts are these (RFC 5652, 3 and 5.1).
use Rattle.std.specs.Prelude.{◌≡◌, ◌≢◌, ◌⊎◌, ◌≤◌, ◌^◌, ◌||◌, ℕ, Bool, true, List, [], ◌∷◌, length, Option, None, Some, map}
use Rattle.std.specs.List.{AllByRecursion, Contains, dedup}
use Rattle.std.specs.List.Sorted.{IsPermutation, IsSorted}
use Rattle.std.specs.Str.{bytes_eq}
use Rattle.asn1_borrowed.specs.declared.ElementRef.{ElementRef}
use Rattle.asn1_core.specs.Asn1.{SEQUENCE}
use Rattle.asn1_core.specs.Der.{ElementOctets, IsElement, IsOid, IsTagByte, Octets, OidOctets}
use Rattle.asn1_core_element.specs.declared.error.Error.{Error}
use Rattle.asn1_core_element.specs.declared.error.Error.TheVariants.{Invalid}
use Rattle.asn1_core_format.specs.Components.{AllIf}
use Rattle.asn1_core_format.specs.Whole.{IsValueOf}
use Rattle.asn1_core_oid.specs.Known.{data_oid}
use Rattle.attribute_writers.specs.Refusals.{IsFirstWithout, Refuses}
use Rattle.asn1_sets.specs.Order.{IsInOrder, compared}
use Rattle.pkcs7_verifier.specs.KeyIdentifiers.{has_tag}
use Rattle.signed_writers.specs.Values.{content_info_value}
use Rattle.signed_writers.specs.Versions.{is_not_data, signed_version, signer_version}
use Rattle.signed_writers.specs.declared.checks.NotSigned.{NotSigned}
use Rattle.signed_writers.specs.declared.checks.SignedPart.{SignedPart}
use Rattle.signed_writers.specs.declared.checks.SignedPart.TheVariants.{ContentType, Content, Certificate, RevocationList, Signer, Whole}
use Rattle.signed_writers.specs.declared.content.ContentInfo.{ContentInfo}
use Rattle.signer_ranges.specs.SignerRoutes.{FileValue, SIGNER, SignerValue, signed_file}
use Rattle.signer_ranges.specs.Signers.{Signs, algorithm_text, certificates_of, content_info_of, digest_algorithm_of, sid_of, signed_of, signers_of}
use Rattle.pkcs7_attributes.specs.NamedAttributes.{signing_time_oid}
use Rattle.x509_base.specs.AttributesByOid.{IsOnlyOf, with_oid}
use Rattle.x509_base.specs.Times.{time}
use Rattle.x509_base.specs.Algorithms.{algorithm_identifier}
use Rattle.x509_base.specs.Names.{attribute}
use Rattle.x509_pkcs7.specs.RawContents.{raw_encapsulated_content_info}
use Rattle.x509_pkcs7.specs.RawSigners.{raw_signer_info_value}
use Rattle.x509_pkcs7.specs.declared.raw_signers.RawSignerInfo.{RawSignerInfo}

-- what signed data is made of
pub record GivenParts : Type 0 where
  pub info : ContentInfo
  pub certificates : List ElementOctets
  pub crls : List ElementOctets
  pub signers : List SignerValue

abbrev pub given_parts : ContentInfo → List ElementRef → List ElementRef → List RawSignerInfo → GivenParts
given_parts info certificates crls signers = record {
  info = info;
  certificates = map (λ x. x.0.now) certificates;
  crls = map (λ x. x.0.now) crls;
  signers = map raw_signer_info_value signers;
}

abbrev pub signer_text : SignerValue → List ℕ
signer_text = SIGNER.format.text

abbrev pub type_of : GivenParts → OidOctets
type_of given = (content_info_value given.info).0

abbrev pub version_of : FileValue → ℕ
version_of v = v.1.0.0

abbrev pub digest_algorithms_of : FileValue → List algorithm_identifier.Value
digest_algorithms_of v = v.1.0.1.0

abbrev pub crls_of : FileValue → Option (List ElementOctets)
crls_of v = v.1.0.1.1.1.1.0

abbrev pub some_of : Option (List ElementOctets) → List ElementOctets
some_of None = []
some_of (Some es) = es

-- whether two algorithms have one encoding
abbrev pub is_same : algorithm_identifier.Value → algorithm_identifier.Value → Bool
is_same a b = bytes_eq (algorithm_text a) (algorithm_text b)

-- the algorithms in the order of DER, each once
pub record AreDistinct (given all : List algorithm_identifier.Value) : Type 0 where
  pub order : List algorithm_identifier.Value
  pub permutation : IsPermutation given order
  pub sorted : IsSorted compared (map algorithm_text order)
  pub once : all ≡ dedup is_same order

-- the signers in the order of DER
pub record AreSigners (given all : List SignerValue) : Type 0 where
  pub permutation : IsPermutation given all
  pub sorted : IsSorted compared (map signer_text all)

pub record AreParts (given : GivenParts) (v : FileValue) : Type 0 where
  pub version : version_of v ≡ signed_version (is_not_data given.info) given.certificates given.crls given.signers
  pub digest_algorithms : AreDistinct (map digest_algorithm_of given.signers) (digest_algorithms_of v)
  pub content : content_info_of v ≡ content_info_value given.info
  pub certificates : IsInOrder given.certificates (certificates_of v)
  pub crls : IsInOrder given.crls (some_of (crls_of v))
  pub not_empty : crls_of v ≢ Some []
  pub signers : AreSigners given.signers (signers_of v)

-- an element with the tag of a certificate, or of another choice (RFC 5652, 10.2.2)
abbrev pub IsChoice : ElementOctets → Type 0
IsChoice e = IsElement IsTagByte e × ((has_tag 0x30 e || (has_tag 0xA0 e || (has_tag 0xA1 e || (has_tag 0xA2 e || has_tag 0xA3 e)))) ≡ true)

-- an element with the tag of a revocation list, or of the other choice (RFC 5652, 10.2.1)
abbrev pub IsRevocation : ElementOctets → Type 0
IsRevocation e = IsElement IsTagByte e × ((has_tag 0x30 e || has_tag 0xA1 e) ≡ true)

-- there is at most one signingTime, with one value (RFC 5652, 11.3)
abbrev pub HasOneTime : List attribute.Value → Type 0
HasOneTime attrs = (t : Option time.Value) × IsOnlyOf time.format (with_oid signing_time_oid attrs) t

-- signed attributes that RFC 5652 (5.3, 11.1, 11.2, 11.3) allows with content of that type
abbrev pub AreAllowed : OidOctets → List attribute.Value → Type 0
AreAllowed type [] = type ≡ data_oid
AreAllowed type (a ∷ attrs) = (digest : Octets) × Signs (a ∷ attrs) type digest × HasOneTime (a ∷ attrs)

-- a signer that can be written with content of that type: it has its version, and is well-formed
pub record IsConsistent (type : OidOctets) (s : SignerValue) : Type 0 where
  pub version : s.0 ≡ signer_version (sid_of s)
  pub attributes : AreAllowed type (signed_of s)
  pub formed : SIGNER.format.IsWellFormed 64 s

-- where there are no signers there is no content, and its type is id-data (RFC 5652, 5.2)
abbrev pub IsSigned : ContentInfo → List SignerValue → Type 0
IsSigned info [] = (info.content_type.now ≡ data_oid) × (info.content ≡ None)
IsSigned info (s ∷ signers) = Unit {0}

-- the type is an object identifier, and the content is one element
abbrev pub IsContent : ContentInfo → Type 0
IsContent x = (SEQUENCE raw_encapsulated_content_info).format.IsWellFormed 64 (content_info_value x)

-- content that is one element, or none
abbrev pub IsFormed : ContentInfo → Type 0
IsFormed x = AllIf (IsElement IsTagByte) (content_info_value x).1.0

pub record CanBeWritten (given : GivenParts) : Type 0 where
  pub content : IsContent given.info
  pub signed : IsSigned given.info given.signers
  pub certificates : AllByRecursion IsChoice given.certificates
  pub crls : AllByRecursion IsRevocation given.crls
  pub signers : AllByRecursion (IsConsistent (type_of given)) given.signers

-- the parts can be written, and the text is the encoding of signed data that has them, and is read as it
pub record IsSignedData (given : GivenParts) (text : List ℕ) : Type 0 where
  pub can : CanBeWritten given
  pub value : FileValue
  pub parts : AreParts given value
  pub text_is : text ≡ signed_file.text value
  pub reads : IsValueOf signed_file 64 text value

-- a signer, a signer's digest algorithm or the whole is too long to be written
abbrev pub IsTooLong : GivenParts → Type 0
IsTooLong given =
    ((s : SignerValue) × Contains given.signers s × ((2 ^ 64 ≤ length (signer_text s)) ⊎ (2 ^ 64 ≤ length (algorithm_text (digest_algorithm_of s)))))
    ⊎ ((text : List ℕ) × IsSignedData given text × (2 ^ 64 ≤ length text))

-- the part that can't be written; of certificates, revocation lists and signers the first that can't
abbrev pub IsWrong : GivenParts → SignedPart → ℕ → Type 0
IsWrong given ContentType index = (index ≡ 0) × (IsOid (type_of given) → ⊥)
IsWrong given Content index = (index ≡ 0) × (IsFormed given.info × IsSigned given.info given.signers → ⊥)
IsWrong given Certificate index = IsFirstWithout IsChoice given.certificates index
IsWrong given RevocationList index = IsFirstWithout IsRevocation given.crls index
IsWrong given Signer index = IsOid (type_of given) × IsFirstWithout (IsConsistent (type_of given)) given.signers index
IsWrong given Whole index = ⊥

-- why there is no encoding
abbrev pub IsUnwritten : GivenParts → Error → Type 0
IsUnwritten given e = Refuses (CanBeWritten given) (IsTooLong given) e

-- why nothing is written, and where a part can't be written, which it is
pub record IsNotSigned (given : GivenParts) (w : NotSigned) : Type 0 where
  pub refused : IsUnwritten given w.error
  pub wrong : w.error ≡ Invalid → IsWrong given w.part w.index
