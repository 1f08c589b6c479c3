-- The types of PKIX1Explicit88, made of rfc5280-explicit.asn1; not to be edited.
use Rattle.asn1_core.specs.Asn1.{Asn1, CHOICE, Contents, EXPLICIT, EXPLICIT_default, IMPLICIT, INTEGER_BELOW, INTEGER_or, SEQUENCE, SEQUENCE_OF, SET_OF, contents, end, ◌then◌, ◌OPTIONAL◌, ◌DEFAULT◌}
use Rattle.asn1_leaves.specs.Asn1.{BIT_STRING, BMP_STRING, INTEGER, UTF8_STRING}
use Rattle.std.proofs.lemmas.Bool.Decides.{Decides-eqb}
use Rattle.asn1_module_leaves.specs.Asn1.{PRINTABLE_STRING, TELETEX_STRING, UNIVERSAL_STRING}
use Rattle.asn1_core.specs.Der.{SeesEqual, list_equal, option_equal, option_value, same_first, same_second, two_equal, with_end}
use Rattle.x509_base.specs.Algorithms.{algorithm_identifier}
use Rattle.x509_base.specs.AlgorithmParts.{algorithm_identifier_equal, algorithm_identifier_value}
use Rattle.asn1_module_leaves.specs.LeavesEqual.{bits_equal, bmp_equal, integer_equal, utf8_equal}
use Rattle.std.proofs.lemmas.Slice.Eq.{bytes_eq-Decides}
use Rattle.asn1_leaves_strings.specs.Octets.{contents_of, octets_of_bmp, octets_of_utf8}
use Rattle.asn1_module_leaves.specs.laws.Differ.{differ}
use Rattle.x509_base.specs.Extensions.{extensions, extensions_equal, extensions_value}
use Rattle.std.proofs.Common.{inl, inr, refl}
use Rattle.std.specs.Prelude.{map, ℕ, ◌^◌}
use Rattle.x509_base.specs.Names.{name, name_equal, name_parts, name_value}
use Rattle.x509_base.specs.Times.{time, time_equal, time_value}
use Rattle.rfc5280.specs.declared.pkix1_explicit88.DirectoryString.{DirectoryString}
use Rattle.rfc5280.specs.declared.pkix1_explicit88.DirectoryString.TheVariants as DirectoryStringIs
use Rattle.rfc5280.specs.contracts.pkix1_explicit88.DirectoryStringPartialEq.TheImpl as DirectoryStringEq
use Rattle.rfc5280.specs.declared.pkix1_explicit88.Validity.{Validity}
use Rattle.rfc5280.specs.contracts.pkix1_explicit88.ValidityPartialEq.TheImpl as ValidityEq
use Rattle.rfc5280.specs.declared.pkix1_explicit88.SubjectPublicKeyInfo.{SubjectPublicKeyInfo}
use Rattle.rfc5280.specs.contracts.pkix1_explicit88.SubjectPublicKeyInfoPartialEq.TheImpl as SubjectPublicKeyInfoEq
use Rattle.rfc5280.specs.declared.pkix1_explicit88.TbsCertificate.{TbsCertificate}
use Rattle.rfc5280.specs.contracts.pkix1_explicit88.TbsCertificatePartialEq.TheImpl as TbsCertificateEq
use Rattle.rfc5280.specs.declared.pkix1_explicit88.Certificate.{Certificate}
use Rattle.rfc5280.specs.contracts.pkix1_explicit88.CertificatePartialEq.TheImpl as CertificateEq
use Rattle.rfc5280.specs.declared.pkix1_explicit88.TbsCertListRevokedCertificates.{TbsCertListRevokedCertificates}
use Rattle.rfc5280.specs.contracts.pkix1_explicit88.TbsCertListRevokedCertificatesPartialEq.TheImpl as TbsCertListRevokedCertificatesEq
use Rattle.rfc5280.specs.declared.pkix1_explicit88.TbsCertList.{TbsCertList}
use Rattle.rfc5280.specs.contracts.pkix1_explicit88.TbsCertListPartialEq.TheImpl as TbsCertListEq
use Rattle.rfc5280.specs.declared.pkix1_explicit88.CertificateList.{CertificateList}
use Rattle.rfc5280.specs.contracts.pkix1_explicit88.CertificateListPartialEq.TheImpl as CertificateListEq

-- DirectoryString ::= CHOICE { teletexString TeletexString (SIZE (1..MAX)), printableString PrintableString (SIZE
--   (1..MAX)), universalString UniversalString (SIZE (1..MAX)), utf8String UTF8String (SIZE (1..MAX)), bmpString
--   BMPString (SIZE (1..MAX)) } (RFC 5280, 4.1.2.4)
abbrev pub directory_string : Asn1
directory_string =
    CHOICE TELETEX_STRING (CHOICE PRINTABLE_STRING (CHOICE UNIVERSAL_STRING (CHOICE UTF8_STRING BMP_STRING refl)
    refl) refl) refl

abbrev pub directory_string_value : DirectoryString → directory_string.Value
directory_string_value (DirectoryStringIs.TeletexString x) = inl x.0.items
directory_string_value (DirectoryStringIs.PrintableString x) = inr (inl x.0.items)
directory_string_value (DirectoryStringIs.UniversalString x) = inr (inr (inl x.0.items))
directory_string_value (DirectoryStringIs.Utf8String x) = inr (inr (inr (inl (octets_of_utf8 x.0))))
directory_string_value (DirectoryStringIs.BmpString x) = inr (inr (inr (inr (octets_of_bmp x.0))))

-- which alternative a value is
abbrev directory_string_which : directory_string.Value → ℕ
directory_string_which (inl v) = 0
directory_string_which (inr (inl v)) = 1
directory_string_which (inr (inr (inl v))) = 2
directory_string_which (inr (inr (inr (inl v)))) = 3
directory_string_which (inr (inr (inr (inr v)))) = 4

pub directory_string_equal : SeesEqual DirectoryStringEq.ghosts.eq directory_string_value
directory_string_equal (DirectoryStringIs.TeletexString x) (DirectoryStringIs.TeletexString y) = same_first (bytes_eq-Decides x.0.items y.0.items)
directory_string_equal (DirectoryStringIs.TeletexString x) (DirectoryStringIs.PrintableString y) = differ directory_string_which refl refl refl
directory_string_equal (DirectoryStringIs.TeletexString x) (DirectoryStringIs.UniversalString y) = differ directory_string_which refl refl refl
directory_string_equal (DirectoryStringIs.TeletexString x) (DirectoryStringIs.Utf8String y) = differ directory_string_which refl refl refl
directory_string_equal (DirectoryStringIs.TeletexString x) (DirectoryStringIs.BmpString y) = differ directory_string_which refl refl refl
directory_string_equal (DirectoryStringIs.PrintableString x) (DirectoryStringIs.TeletexString y) = differ directory_string_which refl refl refl
directory_string_equal (DirectoryStringIs.PrintableString x) (DirectoryStringIs.PrintableString y) = same_second (same_first (bytes_eq-Decides x.0.items y.0.items))
directory_string_equal (DirectoryStringIs.PrintableString x) (DirectoryStringIs.UniversalString y) = differ directory_string_which refl refl refl
directory_string_equal (DirectoryStringIs.PrintableString x) (DirectoryStringIs.Utf8String y) = differ directory_string_which refl refl refl
directory_string_equal (DirectoryStringIs.PrintableString x) (DirectoryStringIs.BmpString y) = differ directory_string_which refl refl refl
directory_string_equal (DirectoryStringIs.UniversalString x) (DirectoryStringIs.TeletexString y) = differ directory_string_which refl refl refl
directory_string_equal (DirectoryStringIs.UniversalString x) (DirectoryStringIs.PrintableString y) = differ directory_string_which refl refl refl
directory_string_equal (DirectoryStringIs.UniversalString x) (DirectoryStringIs.UniversalString y) = same_second (same_second (same_first (bytes_eq-Decides x.0.items y.0.items)))
directory_string_equal (DirectoryStringIs.UniversalString x) (DirectoryStringIs.Utf8String y) = differ directory_string_which refl refl refl
directory_string_equal (DirectoryStringIs.UniversalString x) (DirectoryStringIs.BmpString y) = differ directory_string_which refl refl refl
directory_string_equal (DirectoryStringIs.Utf8String x) (DirectoryStringIs.TeletexString y) = differ directory_string_which refl refl refl
directory_string_equal (DirectoryStringIs.Utf8String x) (DirectoryStringIs.PrintableString y) = differ directory_string_which refl refl refl
directory_string_equal (DirectoryStringIs.Utf8String x) (DirectoryStringIs.UniversalString y) = differ directory_string_which refl refl refl
directory_string_equal (DirectoryStringIs.Utf8String x) (DirectoryStringIs.Utf8String y) = same_second (same_second (same_second (same_first (utf8_equal x y))))
directory_string_equal (DirectoryStringIs.Utf8String x) (DirectoryStringIs.BmpString y) = differ directory_string_which refl refl refl
directory_string_equal (DirectoryStringIs.BmpString x) (DirectoryStringIs.TeletexString y) = differ directory_string_which refl refl refl
directory_string_equal (DirectoryStringIs.BmpString x) (DirectoryStringIs.PrintableString y) = differ directory_string_which refl refl refl
directory_string_equal (DirectoryStringIs.BmpString x) (DirectoryStringIs.UniversalString y) = differ directory_string_which refl refl refl
directory_string_equal (DirectoryStringIs.BmpString x) (DirectoryStringIs.Utf8String y) = differ directory_string_which refl refl refl
directory_string_equal (DirectoryStringIs.BmpString x) (DirectoryStringIs.BmpString y) = same_second (same_second (same_second (same_second (bmp_equal x y))))

-- RelativeDistinguishedName ::= SET SIZE (1..MAX) OF AttributeTypeAndValue (RFC 5280, 4.1.2.4)
abbrev pub relative_distinguished_name : Asn1
relative_distinguished_name = SET_OF (SEQUENCE name_value)

-- CertificateSerialNumber ::= INTEGER (RFC 5280, 4.1.2.2)
abbrev pub certificate_serial_number : Asn1
certificate_serial_number = INTEGER

-- Validity ::= SEQUENCE { notBefore Time, notAfter Time } (RFC 5280, 4.1.2.5)
abbrev pub validity : Contents
validity =
    contents (time then time then end) refl

abbrev pub validity_value : Validity → validity.Value
validity_value x = (time_value x.not_before, (time_value x.not_after, tt))

pub validity_equal : SeesEqual ValidityEq.ghosts.eq validity_value
validity_equal x y = two_equal (time_equal x.not_before y.not_before) (with_end (time_equal x.not_after y.not_after))

-- SubjectPublicKeyInfo ::= SEQUENCE { algorithm AlgorithmIdentifier, subjectPublicKey BIT STRING } (RFC 5280,
--   4.1.2.7)
abbrev pub subject_public_key_info : Contents
subject_public_key_info =
    contents (SEQUENCE algorithm_identifier then BIT_STRING then end) refl

abbrev pub subject_public_key_info_value : SubjectPublicKeyInfo → subject_public_key_info.Value
subject_public_key_info_value x = (algorithm_identifier_value x.algorithm, (contents_of x.subject_public_key.0, tt))

pub subject_public_key_info_equal : SeesEqual SubjectPublicKeyInfoEq.ghosts.eq subject_public_key_info_value
subject_public_key_info_equal x y = two_equal (algorithm_identifier_equal x.algorithm y.algorithm) (with_end (bits_equal x.subject_public_key y.subject_public_key))

-- UniqueIdentifier ::= BIT STRING (RFC 5280, 4.1.2.8)
abbrev pub unique_identifier : Asn1
unique_identifier = BIT_STRING

-- TBSCertificate ::= SEQUENCE { version [0] Version DEFAULT v1, serialNumber CertificateSerialNumber, signature
--   AlgorithmIdentifier, issuer Name, validity Validity, subject Name, subjectPublicKeyInfo SubjectPublicKeyInfo,
--   issuerUniqueID [1] IMPLICIT UniqueIdentifier OPTIONAL, subjectUniqueID [2] IMPLICIT UniqueIdentifier OPTIONAL,
--   extensions [3] Extensions OPTIONAL } (RFC 5280, 4.1)
abbrev pub tbs_certificate : Contents
tbs_certificate =
    contents (EXPLICIT_default 0 (INTEGER_or 0 refl) DEFAULT certificate_serial_number then SEQUENCE
    algorithm_identifier then SEQUENCE name then SEQUENCE validity then SEQUENCE name then SEQUENCE
    subject_public_key_info then IMPLICIT 1 unique_identifier OPTIONAL IMPLICIT 2 unique_identifier OPTIONAL
    EXPLICIT 3 (SEQUENCE extensions) OPTIONAL end) refl

abbrev pub tbs_certificate_value : TbsCertificate → tbs_certificate.Value
tbs_certificate_value x = (x.version.0.0, (x.serial_number.0.items, (algorithm_identifier_value x.signature, (name_parts x.issuer, (validity_value x.validity, (name_parts x.subject, (subject_public_key_info_value x.subject_public_key_info, (option_value (λ y. contents_of y.0.0) x.issuer_unique_id, (option_value (λ y. contents_of y.0.0) x.subject_unique_id, (option_value (λ y. extensions_value y.0) x.extensions, tt))))))))))

pub tbs_certificate_equal : SeesEqual TbsCertificateEq.ghosts.eq tbs_certificate_value
tbs_certificate_equal x y = two_equal (Decides-eqb x.version.0.0 y.version.0.0) (two_equal (integer_equal x.serial_number y.serial_number) (two_equal (algorithm_identifier_equal x.signature y.signature) (two_equal (name_equal x.issuer y.issuer) (two_equal (validity_equal x.validity y.validity) (two_equal (name_equal x.subject y.subject) (two_equal (subject_public_key_info_equal x.subject_public_key_info y.subject_public_key_info) (two_equal (option_equal _ (λ y. contents_of y.0.0) (λ x y. bits_equal x.0 y.0) x.issuer_unique_id y.issuer_unique_id) (two_equal (option_equal _ (λ y. contents_of y.0.0) (λ x y. bits_equal x.0 y.0) x.subject_unique_id y.subject_unique_id) (with_end (option_equal _ (λ y. extensions_value y.0) (λ x y. extensions_equal x.0 y.0) x.extensions y.extensions))))))))))

-- Certificate ::= SEQUENCE { tbsCertificate TBSCertificate, signatureAlgorithm AlgorithmIdentifier, signature BIT
--   STRING } (RFC 5280, 4.1)
abbrev pub certificate : Contents
certificate =
    contents (SEQUENCE tbs_certificate then SEQUENCE algorithm_identifier then BIT_STRING then end) refl

abbrev pub certificate_value : Certificate → certificate.Value
certificate_value x = (tbs_certificate_value x.tbs_certificate, (algorithm_identifier_value x.signature_algorithm, (contents_of x.signature.0, tt)))

pub certificate_equal : SeesEqual CertificateEq.ghosts.eq certificate_value
certificate_equal x y = two_equal (tbs_certificate_equal x.tbs_certificate y.tbs_certificate) (two_equal (algorithm_identifier_equal x.signature_algorithm y.signature_algorithm) (with_end (bits_equal x.signature y.signature)))

-- Version ::= INTEGER { v1(0), v2(1), v3(2) } (RFC 5280, 4.1.2.1)
abbrev pub version : Asn1
version = INTEGER_BELOW (2 ^ 8)

-- TBSCertList.revokedCertificates ::= SEQUENCE { userCertificate CertificateSerialNumber, revocationDate Time,
--   crlEntryExtensions Extensions OPTIONAL } (RFC 5280, 5.1)
abbrev pub tbs_cert_list_revoked_certificates : Contents
tbs_cert_list_revoked_certificates =
    contents (certificate_serial_number then time then SEQUENCE extensions OPTIONAL end) refl

abbrev pub tbs_cert_list_revoked_certificates_value : TbsCertListRevokedCertificates → tbs_cert_list_revoked_certificates.Value
tbs_cert_list_revoked_certificates_value x = (x.user_certificate.0.items, (time_value x.revocation_date, (option_value extensions_value x.crl_entry_extensions, tt)))

pub tbs_cert_list_revoked_certificates_equal : SeesEqual TbsCertListRevokedCertificatesEq.ghosts.eq tbs_cert_list_revoked_certificates_value
tbs_cert_list_revoked_certificates_equal x y = two_equal (integer_equal x.user_certificate y.user_certificate) (two_equal (time_equal x.revocation_date y.revocation_date) (with_end (option_equal _ extensions_value extensions_equal x.crl_entry_extensions y.crl_entry_extensions)))

-- TBSCertList ::= SEQUENCE { version Version OPTIONAL, signature AlgorithmIdentifier, issuer Name, thisUpdate
--   Time, nextUpdate Time OPTIONAL, revokedCertificates SEQUENCE OF SEQUENCE { userCertificate
--   CertificateSerialNumber, revocationDate Time, crlEntryExtensions Extensions OPTIONAL } OPTIONAL, crlExtensions
--   [0] Extensions OPTIONAL } (RFC 5280, 5.1)
abbrev pub tbs_cert_list : Contents
tbs_cert_list =
    contents (version OPTIONAL SEQUENCE algorithm_identifier then SEQUENCE name then time then time OPTIONAL
    SEQUENCE_OF (SEQUENCE tbs_cert_list_revoked_certificates) OPTIONAL EXPLICIT 0 (SEQUENCE extensions) OPTIONAL
    end) refl

abbrev pub tbs_cert_list_value : TbsCertList → tbs_cert_list.Value
tbs_cert_list_value x = (option_value (λ y. y) x.version, (algorithm_identifier_value x.signature, (name_parts x.issuer, (time_value x.this_update, (option_value time_value x.next_update, (option_value (λ y. map tbs_cert_list_revoked_certificates_value y.0.items) x.revoked_certificates, (option_value (λ y. extensions_value y.0) x.crl_extensions, tt)))))))

pub tbs_cert_list_equal : SeesEqual TbsCertListEq.ghosts.eq tbs_cert_list_value
tbs_cert_list_equal x y = two_equal (option_equal _ (λ y. y) Decides-eqb x.version y.version) (two_equal (algorithm_identifier_equal x.signature y.signature) (two_equal (name_equal x.issuer y.issuer) (two_equal (time_equal x.this_update y.this_update) (two_equal (option_equal _ time_value time_equal x.next_update y.next_update) (two_equal (option_equal _ (λ y. map tbs_cert_list_revoked_certificates_value y.0.items) (λ x y. list_equal _ tbs_cert_list_revoked_certificates_value tbs_cert_list_revoked_certificates_equal x.0.items y.0.items) x.revoked_certificates y.revoked_certificates) (with_end (option_equal _ (λ y. extensions_value y.0) (λ x y. extensions_equal x.0 y.0) x.crl_extensions y.crl_extensions)))))))

-- CertificateList ::= SEQUENCE { tbsCertList TBSCertList, signatureAlgorithm AlgorithmIdentifier, signature BIT
--   STRING } (RFC 5280, 5.1)
abbrev pub certificate_list : Contents
certificate_list =
    contents (SEQUENCE tbs_cert_list then SEQUENCE algorithm_identifier then BIT_STRING then end) refl

abbrev pub certificate_list_value : CertificateList → certificate_list.Value
certificate_list_value x = (tbs_cert_list_value x.tbs_cert_list, (algorithm_identifier_value x.signature_algorithm, (contents_of x.signature.0, tt)))

pub certificate_list_equal : SeesEqual CertificateListEq.ghosts.eq certificate_list_value
certificate_list_equal x y = two_equal (tbs_cert_list_equal x.tbs_cert_list y.tbs_cert_list) (two_equal (algorithm_identifier_equal x.signature_algorithm y.signature_algorithm) (with_end (bits_equal x.signature y.signature)))
