-- The ways to the parts of signed data with signers of every version, content of any type and certificates as they are.
-- ContentInfo ::= SEQUENCE { contentType ContentType, content [0] EXPLICIT SignedData } (RFC 5652, 3)
-- SignedData ::= SEQUENCE { version CMSVersion, digestAlgorithms DigestAlgorithmIdentifiers, encapContentInfo
--   EncapsulatedContentInfo, certificates [0] IMPLICIT CertificateSet OPTIONAL, crls [1] IMPLICIT
--   RevocationInfoChoices OPTIONAL, signerInfos SET OF SignerInfo } (RFC 5652, 5.1)
-- EncapsulatedContentInfo ::= SEQUENCE { eContentType ContentType, eContent [0] EXPLICIT ANY OPTIONAL } (RFC 5652, 5.2)
-- SignerInfo ::= SEQUENCE { version CMSVersion, sid SignerIdentifier, digestAlgorithm DigestAlgorithmIdentifier,
--   signedAttrs [0] IMPLICIT SignedAttributes OPTIONAL, signatureAlgorithm SignatureAlgorithmIdentifier, signature
--   SignatureValue, unsignedAttrs [1] IMPLICIT UnsignedAttributes OPTIONAL } (RFC 5652, 5.3)
-- Attribute ::= SEQUENCE { attrType OBJECT IDENTIFIER, attrValues SET OF ANY } (RFC 5652, 5.3)
-- Absent sets of certificates and of attributes have the value of empty ones, which is their default.
use Rattle.std.specs.Prelude.{◌≡◌, ℕ, ◌+◌, List, [], ◌∷◌, length}
use Rattle.std.proofs.Common.{refl, sym, ◌∙◌, arith, inl, inr}
use Rattle.asn1_core.specs.Asn1.{Asn1, Asn1Default, asn1, end, ◌then◌, ◌OPTIONAL◌, ◌DEFAULT◌, INTEGER_BELOW, OCTET_STRING, OBJECT_IDENTIFIER, ANY, EXPLICIT, SET_OF, SEQUENCE}
use Rattle.asn1_core.specs.Der.{Format, each, head, lawful_explicit, lawful_only_oid, octet_string, OidOctets}
use Rattle.asn1_located.specs.Finding.{Found, contains_element}
use Rattle.asn1_located.specs.Places.{Route}
use Rattle.asn1_located.specs.Routes.{Tagged, TaggedDefault, again, as_is, component, default_with_tag, enclosed, item, octets, opened, with_tag, ◌before◌, ◌here◌, ◌maybe◌, ◌default◌, ◌there◌, ◌given◌, ◌▸◌}
use Rattle.asn1_located.specs.declared.walks.Step.TheVariants.{Inside}
use Rattle.pkcs7_attributes.specs.Attributes.{attributes}
use Rattle.pkcs7_attributes.specs.NamedAttributes.{message_digest_oid}
use Rattle.pkcs7_attributes.specs.UnsignedAttributes.{raw_unsigned_attributes}
use Rattle.pkcs7_signed_crl.specs.Algorithms.{digest_algorithm_identifiers}
use Rattle.pkcs7_signed_crl.specs.Certificates.{certificate_choices, certificate_set, no_certificates}
use Rattle.pkcs7_signed_crl.specs.laws.Certificates.{no_certificates_left_out}
use Rattle.pkcs7_signed_crl.specs.SignerParts.{signer_identifier}
use Rattle.pkcs7_verifier.specs.Hashed.{AreContentsOf}
use Rattle.pkcs7_verifier.specs.Matches.{choice_octets}
use Rattle.x509_base.specs.Algorithms.{algorithm_identifier}
use Rattle.x509_base.specs.Names.{attribute}
use Rattle.x509_pkcs7.specs.RawContents.{raw_encapsulated_content_info}
use Rattle.x509_pkcs7.specs.RawSigned.{RawCertificateValue, raw_certificate, raw_revocation_info_choices, raw_signed, signed_data_oid}
use Rattle.x509_pkcs7.specs.laws.RawSigned.{lawful_raw_signed}
use Rattle.x509_pkcs7.specs.RawSigners.{SIGNED_ATTRIBUTES, UNSIGNED_ATTRIBUTES, raw_signer_info}

abbrev pub SignerValue : Type 0
SignerValue = raw_signer_info.Value

abbrev pub FileValue : Type 0
FileValue = RawCertificateValue SignerValue

abbrev pub signed_file : Format FileValue
signed_file = raw_certificate (SEQUENCE raw_signer_info).format

abbrev pub SIGNER : Asn1
SIGNER = SEQUENCE raw_signer_info

abbrev pub ALGORITHM : Asn1
ALGORITHM = SEQUENCE algorithm_identifier

abbrev pub CERTIFICATES : Asn1Default
CERTIFICATES = record { type = certificate_set; text = no_certificates; inside = 0; left_out = no_certificates_left_out }

abbrev pub PAST_CERTIFICATES : TaggedDefault
PAST_CERTIFICATES = default_with_tag 0xA0 CERTIFICATES refl

abbrev pub PAST_CRLS : Tagged
PAST_CRLS = with_tag 0xA1 raw_revocation_info_choices refl

abbrev pub PAST_SIGNED : TaggedDefault
PAST_SIGNED = default_with_tag 0xA0 SIGNED_ATTRIBUTES refl

-- SignedData, in the ContentInfo
abbrev pub signed_data : Route signed_file.Reads (raw_signed SIGNER.format).Reads
signed_data =
    component 0x30 (omega arith) (asn1 (lawful_only_oid signed_data_oid) before asn1 (lawful_explicit {tag = 0xA0} (omega arith) (lawful_raw_signed SIGNER.format SIGNER.law)) here end) refl
    ▸ enclosed 0xA0 (omega arith) (raw_signed SIGNER.format)

-- an element of any tag to its contents octets
pub inside_any : (k : ℕ) (v w : List ℕ) → AreContentsOf w v → (m : ℕ) (x : List ℕ) → ANY.format.Reads k x v → Found (Inside ∷ []) m x (λ y. as_is k y w)
inside_any k v w o m x s = (m + length (head o.tag (length w)), w, (m + length (head o.tag (length w)), w, contains_element m o.tag x w o.is_tag (s.0 ∙ o.is), (refl, refl)), refl)

abbrev pub any_contents : Route ANY.format.Reads as_is
any_contents = record { steps = Inside ∷ []; IsPart = λ v w. AreContentsOf w v; found = inside_any }

-- the element that eContent is
abbrev pub content_element : Route signed_file.Reads ANY.format.Reads
content_element =
    signed_data
    ▸ component 0x30 (omega arith) (INTEGER_BELOW 6 before digest_algorithm_identifiers before SEQUENCE raw_encapsulated_content_info here CERTIFICATES DEFAULT raw_revocation_info_choices OPTIONAL SET_OF SIGNER then end) refl
    ▸ component 0x30 (omega arith) (OBJECT_IDENTIFIER before EXPLICIT 0 ANY there end) refl
    ▸ enclosed 0xA0 (omega arith) ANY.format

-- its contents octets, which are hashed
abbrev pub content : Route signed_file.Reads as_is
content = content_element ▸ any_contents

-- the certificates
abbrev pub certificates : Route signed_file.Reads (each certificate_choices.format).Reads
certificates =
    signed_data
    ▸ component 0x30 (omega arith) (INTEGER_BELOW 6 before digest_algorithm_identifiers before SEQUENCE raw_encapsulated_content_info before CERTIFICATES given raw_revocation_info_choices OPTIONAL SET_OF SIGNER then end) refl
    ▸ enclosed 0xA0 (omega arith) (each certificate_choices.format)

-- a certificate, or another choice, as it is
pub chosen : (k : ℕ) (v : certificate_choices.Value) (w : List ℕ) → w ≡ choice_octets v → (m : ℕ) (x : List ℕ) → certificate_choices.format.Reads k x v → Found [] m x (λ y. as_is k y w)
chosen k (inl c) w o m x s = (m, x, (refl, refl), s.0 ∙ sym o)
chosen k (inr c) w o m x s = (m, x, (refl, refl), s.0 ∙ sym o)

abbrev pub choice : Route certificate_choices.format.Reads as_is
choice = record { steps = []; IsPart = λ v w. w ≡ choice_octets v; found = chosen }

-- the certificate with an index
abbrev pub certificate : ℕ → Route signed_file.Reads as_is
certificate j =
    signed_data
    ▸ component 0x30 (omega arith) (INTEGER_BELOW 6 before digest_algorithm_identifiers before SEQUENCE raw_encapsulated_content_info before CERTIFICATES given raw_revocation_info_choices OPTIONAL SET_OF SIGNER then end) refl
    ▸ item 0xA0 (omega arith) certificate_choices.format certificate_choices.law j
    ▸ choice

-- the signer with an index
abbrev pub signer : ℕ → Route signed_file.Reads SIGNER.format.Reads
signer i =
    signed_data
    ▸ component 0x30 (omega arith) (INTEGER_BELOW 6 before digest_algorithm_identifiers before SEQUENCE raw_encapsulated_content_info before PAST_CERTIFICATES default PAST_CRLS maybe SET_OF SIGNER here end) refl
    ▸ item 0x31 (omega arith) SIGNER.format SIGNER.law i

abbrev pub digest_algorithm : Route SIGNER.format.Reads ALGORITHM.format.Reads
digest_algorithm = component 0x30 (omega arith) (INTEGER_BELOW 6 before signer_identifier before ALGORITHM here SIGNED_ATTRIBUTES DEFAULT ALGORITHM then OCTET_STRING then UNSIGNED_ATTRIBUTES DEFAULT end) refl

abbrev pub signed_attributes : Route SIGNER.format.Reads attributes.format.Reads
signed_attributes = component 0x30 (omega arith) (INTEGER_BELOW 6 before signer_identifier before ALGORITHM before SIGNED_ATTRIBUTES given ALGORITHM then OCTET_STRING then UNSIGNED_ATTRIBUTES DEFAULT end) refl

abbrev pub signature_algorithm : Route SIGNER.format.Reads ALGORITHM.format.Reads
signature_algorithm = component 0x30 (omega arith) (INTEGER_BELOW 6 before signer_identifier before ALGORITHM before PAST_SIGNED default ALGORITHM here OCTET_STRING then UNSIGNED_ATTRIBUTES DEFAULT end) refl

-- the octets of the signature
abbrev pub signature : Route SIGNER.format.Reads as_is
signature =
    component 0x30 (omega arith) (INTEGER_BELOW 6 before signer_identifier before ALGORITHM before PAST_SIGNED default ALGORITHM before OCTET_STRING here UNSIGNED_ATTRIBUTES DEFAULT end) refl
    ▸ octets 0x04 (omega arith) (λ _. Unit {0})

abbrev pub unsigned_attributes : Route SIGNER.format.Reads raw_unsigned_attributes.format.Reads
unsigned_attributes = component 0x30 (omega arith) (INTEGER_BELOW 6 before signer_identifier before ALGORITHM before PAST_SIGNED default ALGORITHM before OCTET_STRING before UNSIGNED_ATTRIBUTES given end) refl

abbrev pub values : Route (SEQUENCE attribute).format.Reads (SET_OF ANY).format.Reads
values = component 0x30 (omega arith) (OBJECT_IDENTIFIER before SET_OF ANY here end) refl

-- the values of an attribute of that type
abbrev pub values_of : OidOctets → Route (SEQUENCE attribute).format.Reads (SET_OF ANY).format.Reads
values_of oid = record { steps = values.steps; IsPart = λ a w. (a.0 ≡ oid) × values.IsPart a w; found = λ k a w o m x s. values.found k a w o.1 m x s }

-- From the signed attributes to the octets of messageDigest (RFC 5652, 11.2): the attribute with the index has its type, and
-- its first value is an OCTET STRING with these octets.
abbrev pub digest_in : ℕ → Route attributes.format.Reads as_is
digest_in j =
    item 0xA0 (omega arith) (SEQUENCE attribute).format (SEQUENCE attribute).law j
    ▸ values_of message_digest_oid
    ▸ item 0x31 (omega arith) ANY.format ANY.law 0
    ▸ opened octet_string
    ▸ again (octets 0x04 (omega arith) (λ _. Unit {0}))

abbrev pub message_digest : ℕ → Route SIGNER.format.Reads as_is
message_digest j = signed_attributes ▸ digest_in j
