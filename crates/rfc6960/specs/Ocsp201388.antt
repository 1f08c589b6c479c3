-- The types of OCSP-2013-88, made of rfc6960.asn1; not to be edited.
use Rattle.asn1_core.specs.Asn1.{Asn1, CHOICE, Contents, EXPLICIT, EXPLICIT_default, IMPLICIT, INTEGER_BELOW, INTEGER_or, NULL, OBJECT_IDENTIFIER, OCTET_STRING, SEQUENCE, SEQUENCE_OF, contents, end, ◌then◌, ◌OPTIONAL◌, ◌DEFAULT◌}
use Rattle.asn1_leaves.specs.Asn1.{BIT_STRING, GENERALIZED_TIME, IA5_STRING, INTEGER}
use Rattle.std.proofs.lemmas.Bool.Decides.{Decides-eqb}
use Rattle.asn1_module_leaves.specs.Asn1.{ENUMERATED_of, OCTET_STRING_CONTAINING}
use Rattle.std.specs.Prelude.{List, map, ℕ, ◌^◌, [], ◌∷◌}
use Rattle.asn1_core.specs.Der.{SeesEqual, list_equal, octets_of, option_equal, option_value, same_first, same_second, two_equal, with_end}
use Rattle.rfc5280.specs.Pkix1Implicit88.{access_description_equal, access_description_value, authority_info_access_syntax, crl_reason, crl_reason_equal, crl_reason_value, general_name, general_name_equal, general_name_value}
use Rattle.x509_base.specs.Algorithms.{algorithm_identifier}
use Rattle.x509_base.specs.AlgorithmParts.{algorithm_identifier_equal, algorithm_identifier_value}
use Rattle.asn1_module_leaves.specs.LeavesEqual.{bits_equal, ia5_equal, integer_equal, null_equal}
use Rattle.std.proofs.lemmas.Slice.Eq.{bytes_eq-Decides}
use Rattle.rfc5280.specs.Pkix1Explicit88.{certificate, certificate_equal, certificate_serial_number, certificate_value}
use Rattle.asn1_leaves_strings.specs.Octets.{contents_of, octets_of_ia5}
use Rattle.asn1_module_leaves.specs.laws.Differ.{differ}
use Rattle.asn1_leaves_times.specs.laws.TimesLaws.{equal_generalized}
use Rattle.x509_base.specs.Extensions.{extensions, extensions_equal, extensions_value}
use Rattle.std.proofs.Common.{inl, inr, refl, rules}
use Rattle.asn1_leaves_times.specs.Times.{moment_of_generalized}
use Rattle.x509_base.specs.Names.{name, name_equal, name_parts}
use Rattle.asn1_core.specs.laws.ViewsEqual.{oid_equal}
use Rattle.rfc6960.specs.declared.ocsp_2013_88.CertId.{CertId}
use Rattle.rfc6960.specs.contracts.ocsp_2013_88.CertIdPartialEq.TheImpl as CertIdEq
use Rattle.rfc6960.specs.declared.ocsp_2013_88.Request.{Request}
use Rattle.rfc6960.specs.contracts.ocsp_2013_88.RequestPartialEq.TheImpl as RequestEq
use Rattle.rfc6960.specs.declared.ocsp_2013_88.TbsRequest.{TbsRequest}
use Rattle.rfc6960.specs.contracts.ocsp_2013_88.TbsRequestPartialEq.TheImpl as TbsRequestEq
use Rattle.rfc6960.specs.declared.ocsp_2013_88.Signature.{Signature}
use Rattle.rfc6960.specs.contracts.ocsp_2013_88.SignaturePartialEq.TheImpl as SignatureEq
use Rattle.rfc6960.specs.declared.ocsp_2013_88.OcspRequest.{OcspRequest}
use Rattle.rfc6960.specs.contracts.ocsp_2013_88.OcspRequestPartialEq.TheImpl as OcspRequestEq
use Rattle.rfc6960.specs.declared.ocsp_2013_88.OcspResponseStatus.{OcspResponseStatus}
use Rattle.rfc6960.specs.declared.ocsp_2013_88.OcspResponseStatus.TheVariants as OcspResponseStatusIs
use Rattle.rfc6960.specs.contracts.ocsp_2013_88.OcspResponseStatusPartialEq.TheImpl as OcspResponseStatusEq
use Rattle.rfc6960.specs.declared.ocsp_2013_88.ResponseBytes.{ResponseBytes}
use Rattle.rfc6960.specs.contracts.ocsp_2013_88.ResponseBytesPartialEq.TheImpl as ResponseBytesEq
use Rattle.rfc6960.specs.declared.ocsp_2013_88.OcspResponse.{OcspResponse}
use Rattle.rfc6960.specs.contracts.ocsp_2013_88.OcspResponsePartialEq.TheImpl as OcspResponseEq
use Rattle.rfc6960.specs.declared.ocsp_2013_88.ResponderId.{ResponderId}
use Rattle.rfc6960.specs.declared.ocsp_2013_88.ResponderId.TheVariants as ResponderIdIs
use Rattle.rfc6960.specs.contracts.ocsp_2013_88.ResponderIdPartialEq.TheImpl as ResponderIdEq
use Rattle.rfc6960.specs.declared.ocsp_2013_88.RevokedInfo.{RevokedInfo}
use Rattle.rfc6960.specs.contracts.ocsp_2013_88.RevokedInfoPartialEq.TheImpl as RevokedInfoEq
use Rattle.rfc6960.specs.declared.ocsp_2013_88.CertStatus.{CertStatus}
use Rattle.rfc6960.specs.declared.ocsp_2013_88.CertStatus.TheVariants as CertStatusIs
use Rattle.rfc6960.specs.contracts.ocsp_2013_88.CertStatusPartialEq.TheImpl as CertStatusEq
use Rattle.rfc6960.specs.declared.ocsp_2013_88.SingleResponse.{SingleResponse}
use Rattle.rfc6960.specs.contracts.ocsp_2013_88.SingleResponsePartialEq.TheImpl as SingleResponseEq
use Rattle.rfc6960.specs.declared.ocsp_2013_88.ResponseData.{ResponseData}
use Rattle.rfc6960.specs.contracts.ocsp_2013_88.ResponseDataPartialEq.TheImpl as ResponseDataEq
use Rattle.rfc6960.specs.declared.ocsp_2013_88.BasicOcspResponse.{BasicOcspResponse}
use Rattle.rfc6960.specs.contracts.ocsp_2013_88.BasicOcspResponsePartialEq.TheImpl as BasicOcspResponseEq
use Rattle.rfc6960.specs.declared.ocsp_2013_88.BasicResponseBytes.{BasicResponseBytes}
use Rattle.rfc6960.specs.contracts.ocsp_2013_88.BasicResponseBytesPartialEq.TheImpl as BasicResponseBytesEq
use Rattle.rfc6960.specs.declared.ocsp_2013_88.ServiceLocator.{ServiceLocator}
use Rattle.rfc6960.specs.contracts.ocsp_2013_88.ServiceLocatorPartialEq.TheImpl as ServiceLocatorEq
use Rattle.rfc6960.specs.declared.ocsp_2013_88.CrlId.{CrlId}
use Rattle.rfc6960.specs.contracts.ocsp_2013_88.CrlIdPartialEq.TheImpl as CrlIdEq
use Rattle.rfc6960.specs.declared.ocsp_2013_88.PreferredSignatureAlgorithm.{PreferredSignatureAlgorithm}
use Rattle.rfc6960.specs.contracts.ocsp_2013_88.PreferredSignatureAlgorithmPartialEq.TheImpl as PreferredSignatureAlgorithmEq

-- CertID ::= SEQUENCE { hashAlgorithm AlgorithmIdentifier, issuerNameHash OCTET STRING, issuerKeyHash OCTET
--   STRING, serialNumber CertificateSerialNumber } (RFC 6960, 4.1.1)
abbrev pub cert_id : Contents
cert_id =
    contents (SEQUENCE algorithm_identifier then OCTET_STRING then OCTET_STRING then certificate_serial_number then
    end) refl

abbrev pub cert_id_value : CertId → cert_id.Value
cert_id_value x = (algorithm_identifier_value x.hash_algorithm, (x.issuer_name_hash.0.items, (x.issuer_key_hash.0.items, (x.serial_number.0.items, tt))))

pub cert_id_equal : SeesEqual CertIdEq.ghosts.eq cert_id_value
cert_id_equal x y = two_equal (algorithm_identifier_equal x.hash_algorithm y.hash_algorithm) (two_equal (bytes_eq-Decides x.issuer_name_hash.0.items y.issuer_name_hash.0.items) (two_equal (bytes_eq-Decides x.issuer_key_hash.0.items y.issuer_key_hash.0.items) (with_end (integer_equal x.serial_number y.serial_number))))

-- Request ::= SEQUENCE { reqCert CertID, singleRequestExtensions [0] EXPLICIT Extensions OPTIONAL } (RFC 6960,
--   4.1.1)
abbrev pub request : Contents
request =
    contents (SEQUENCE cert_id then EXPLICIT 0 (SEQUENCE extensions) OPTIONAL end) refl

abbrev pub request_value : Request → request.Value
request_value x = (cert_id_value x.req_cert, (option_value (λ y. extensions_value y.0) x.single_request_extensions, tt))

pub request_equal : SeesEqual RequestEq.ghosts.eq request_value
request_equal x y = two_equal (cert_id_equal x.req_cert y.req_cert) (with_end (option_equal _ (λ y. extensions_value y.0) (λ x y. extensions_equal x.0 y.0) x.single_request_extensions y.single_request_extensions))

-- TBSRequest ::= SEQUENCE { version [0] EXPLICIT Version DEFAULT v1, requestorName [1] EXPLICIT GeneralName
--   OPTIONAL, requestList SEQUENCE OF Request, requestExtensions [2] EXPLICIT Extensions OPTIONAL } (RFC 6960,
--   4.1.1)
abbrev pub tbs_request : Contents
tbs_request =
    contents (EXPLICIT_default 0 (INTEGER_or 0 refl) DEFAULT EXPLICIT 1 general_name OPTIONAL SEQUENCE_OF (SEQUENCE
    request) then EXPLICIT 2 (SEQUENCE extensions) OPTIONAL end) refl

abbrev pub tbs_request_value : TbsRequest → tbs_request.Value
tbs_request_value x = (x.version.0.0, (option_value (λ y. general_name_value y.0) x.requestor_name, (map request_value x.request_list.0.items, (option_value (λ y. extensions_value y.0) x.request_extensions, tt))))

pub tbs_request_equal : SeesEqual TbsRequestEq.ghosts.eq tbs_request_value
tbs_request_equal x y = two_equal (Decides-eqb x.version.0.0 y.version.0.0) (two_equal (option_equal _ (λ y. general_name_value y.0) (λ x y. general_name_equal x.0 y.0) x.requestor_name y.requestor_name) (two_equal (list_equal _ request_value request_equal x.request_list.0.items y.request_list.0.items) (with_end (option_equal _ (λ y. extensions_value y.0) (λ x y. extensions_equal x.0 y.0) x.request_extensions y.request_extensions))))

-- Signature ::= SEQUENCE { signatureAlgorithm AlgorithmIdentifier, signature BIT STRING, certs [0] EXPLICIT
--   SEQUENCE OF Certificate OPTIONAL } (RFC 6960, 4.1.1)
abbrev pub signature : Contents
signature =
    contents (SEQUENCE algorithm_identifier then BIT_STRING then EXPLICIT 0 (SEQUENCE_OF (SEQUENCE certificate))
    OPTIONAL end) refl

abbrev pub signature_value : Signature → signature.Value
signature_value x = (algorithm_identifier_value x.signature_algorithm, (contents_of x.signature.0, (option_value (λ y. map certificate_value y.0.0.items) x.certs, tt)))

pub signature_equal : SeesEqual SignatureEq.ghosts.eq signature_value
signature_equal x y = two_equal (algorithm_identifier_equal x.signature_algorithm y.signature_algorithm) (two_equal (bits_equal x.signature y.signature) (with_end (option_equal _ (λ y. map certificate_value y.0.0.items) (λ x y. list_equal _ certificate_value certificate_equal x.0.0.items y.0.0.items) x.certs y.certs)))

-- OCSPRequest ::= SEQUENCE { tbsRequest TBSRequest, optionalSignature [0] EXPLICIT Signature OPTIONAL } (RFC 6960,
--   4.1.1)
abbrev pub ocsp_request : Contents
ocsp_request =
    contents (SEQUENCE tbs_request then EXPLICIT 0 (SEQUENCE signature) OPTIONAL end) refl

abbrev pub ocsp_request_value : OcspRequest → ocsp_request.Value
ocsp_request_value x = (tbs_request_value x.tbs_request, (option_value (λ y. signature_value y.0) x.optional_signature, tt))

pub ocsp_request_equal : SeesEqual OcspRequestEq.ghosts.eq ocsp_request_value
ocsp_request_equal x y = two_equal (tbs_request_equal x.tbs_request y.tbs_request) (with_end (option_equal _ (λ y. signature_value y.0) (λ x y. signature_equal x.0 y.0) x.optional_signature y.optional_signature))

-- Version ::= INTEGER { v1(0) } (RFC 6960, 4.1.1)
abbrev pub version : Asn1
version = INTEGER_BELOW (2 ^ 8)

-- OCSPResponseStatus ::= ENUMERATED { successful(0), malformedRequest(1), internalError(2), tryLater(3),
--   sigRequired(5), unauthorized(6) } (RFC 6960, 4.2.1)
abbrev pub ocsp_response_status_numbers : List ℕ
ocsp_response_status_numbers = 0 ∷ 1 ∷ 2 ∷ 3 ∷ 5 ∷ 6 ∷ []

abbrev pub ocsp_response_status : Asn1
ocsp_response_status = ENUMERATED_of ocsp_response_status_numbers refl

abbrev pub ocsp_response_status_value : OcspResponseStatus → ℕ
ocsp_response_status_value OcspResponseStatusIs.Successful = 0
ocsp_response_status_value OcspResponseStatusIs.MalformedRequest = 1
ocsp_response_status_value OcspResponseStatusIs.InternalError = 2
ocsp_response_status_value OcspResponseStatusIs.TryLater = 3
ocsp_response_status_value OcspResponseStatusIs.SigRequired = 5
ocsp_response_status_value OcspResponseStatusIs.Unauthorized = 6

pub ocsp_response_status_equal : SeesEqual OcspResponseStatusEq.ghosts.eq ocsp_response_status_value
ocsp_response_status_equal x y = search rules

-- ResponseBytes ::= SEQUENCE { responseType OBJECT IDENTIFIER, response OCTET STRING } (RFC 6960, 4.2.1)
abbrev pub response_bytes : Contents
response_bytes =
    contents (OBJECT_IDENTIFIER then OCTET_STRING then end) refl

abbrev pub response_bytes_value : ResponseBytes → response_bytes.Value
response_bytes_value x = (octets_of x.response_type.0, (x.response.0.items, tt))

pub response_bytes_equal : SeesEqual ResponseBytesEq.ghosts.eq response_bytes_value
response_bytes_equal x y = two_equal (oid_equal x.response_type y.response_type) (with_end (bytes_eq-Decides x.response.0.items y.response.0.items))

-- OCSPResponse ::= SEQUENCE { responseStatus OCSPResponseStatus, responseBytes [0] EXPLICIT ResponseBytes OPTIONAL
--   } (RFC 6960, 4.2.1)
abbrev pub ocsp_response : Contents
ocsp_response =
    contents (ocsp_response_status then EXPLICIT 0 (SEQUENCE response_bytes) OPTIONAL end) refl

abbrev pub ocsp_response_value : OcspResponse → ocsp_response.Value
ocsp_response_value x = (ocsp_response_status_value x.response_status, (option_value (λ y. response_bytes_value y.0) x.response_bytes, tt))

pub ocsp_response_equal : SeesEqual OcspResponseEq.ghosts.eq ocsp_response_value
ocsp_response_equal x y = two_equal (ocsp_response_status_equal x.response_status y.response_status) (with_end (option_equal _ (λ y. response_bytes_value y.0) (λ x y. response_bytes_equal x.0 y.0) x.response_bytes y.response_bytes))

-- KeyHash ::= OCTET STRING (RFC 6960, 4.2.1)
abbrev pub key_hash : Asn1
key_hash = OCTET_STRING

-- ResponderID ::= CHOICE { byName [1] Name, byKey [2] KeyHash } (RFC 6960, 4.2.1)
abbrev pub responder_id : Asn1
responder_id =
    CHOICE (EXPLICIT 1 (SEQUENCE name)) (EXPLICIT 2 key_hash) refl

abbrev pub responder_id_value : ResponderId → responder_id.Value
responder_id_value (ResponderIdIs.ByName x) = inl (name_parts x)
responder_id_value (ResponderIdIs.ByKey x) = inr x.0.items

-- which alternative a value is
abbrev responder_id_which : responder_id.Value → ℕ
responder_id_which (inl v) = 0
responder_id_which (inr v) = 1

pub responder_id_equal : SeesEqual ResponderIdEq.ghosts.eq responder_id_value
responder_id_equal (ResponderIdIs.ByName x) (ResponderIdIs.ByName y) = same_first (name_equal x y)
responder_id_equal (ResponderIdIs.ByName x) (ResponderIdIs.ByKey y) = differ responder_id_which refl refl refl
responder_id_equal (ResponderIdIs.ByKey x) (ResponderIdIs.ByName y) = differ responder_id_which refl refl refl
responder_id_equal (ResponderIdIs.ByKey x) (ResponderIdIs.ByKey y) = same_second (bytes_eq-Decides x.0.items y.0.items)

-- RevokedInfo ::= SEQUENCE { revocationTime GeneralizedTime, revocationReason [0] EXPLICIT CRLReason OPTIONAL }
--   (RFC 6960, 4.2.1)
abbrev pub revoked_info : Contents
revoked_info =
    contents (GENERALIZED_TIME then EXPLICIT 0 crl_reason OPTIONAL end) refl

abbrev pub revoked_info_value : RevokedInfo → revoked_info.Value
revoked_info_value x = (moment_of_generalized x.revocation_time.0, (option_value (λ y. crl_reason_value y.0) x.revocation_reason, tt))

pub revoked_info_equal : SeesEqual RevokedInfoEq.ghosts.eq revoked_info_value
revoked_info_equal x y = two_equal (equal_generalized x.revocation_time.0 y.revocation_time.0) (with_end (option_equal _ (λ y. crl_reason_value y.0) (λ x y. crl_reason_equal x.0 y.0) x.revocation_reason y.revocation_reason))

-- UnknownInfo ::= NULL (RFC 6960, 4.2.1)
abbrev pub unknown_info : Asn1
unknown_info = NULL

-- CertStatus ::= CHOICE { good [0] IMPLICIT NULL, revoked [1] IMPLICIT RevokedInfo, unknown [2] IMPLICIT
--   UnknownInfo } (RFC 6960, 4.2.1)
abbrev pub cert_status : Asn1
cert_status =
    CHOICE (IMPLICIT 0 NULL) (CHOICE (IMPLICIT 1 (SEQUENCE revoked_info)) (IMPLICIT 2 unknown_info) refl) refl

abbrev pub cert_status_value : CertStatus → cert_status.Value
cert_status_value (CertStatusIs.Good x) = inl (tt {0})
cert_status_value (CertStatusIs.Revoked x) = inr (inl (revoked_info_value x))
cert_status_value (CertStatusIs.Unknown x) = inr (inr (tt {0}))

-- which alternative a value is
abbrev cert_status_which : cert_status.Value → ℕ
cert_status_which (inl v) = 0
cert_status_which (inr (inl v)) = 1
cert_status_which (inr (inr v)) = 2

pub cert_status_equal : SeesEqual CertStatusEq.ghosts.eq cert_status_value
cert_status_equal (CertStatusIs.Good x) (CertStatusIs.Good y) = same_first (null_equal x y)
cert_status_equal (CertStatusIs.Good x) (CertStatusIs.Revoked y) = differ cert_status_which refl refl refl
cert_status_equal (CertStatusIs.Good x) (CertStatusIs.Unknown y) = differ cert_status_which refl refl refl
cert_status_equal (CertStatusIs.Revoked x) (CertStatusIs.Good y) = differ cert_status_which refl refl refl
cert_status_equal (CertStatusIs.Revoked x) (CertStatusIs.Revoked y) = same_second (same_first (revoked_info_equal x y))
cert_status_equal (CertStatusIs.Revoked x) (CertStatusIs.Unknown y) = differ cert_status_which refl refl refl
cert_status_equal (CertStatusIs.Unknown x) (CertStatusIs.Good y) = differ cert_status_which refl refl refl
cert_status_equal (CertStatusIs.Unknown x) (CertStatusIs.Revoked y) = differ cert_status_which refl refl refl
cert_status_equal (CertStatusIs.Unknown x) (CertStatusIs.Unknown y) = same_second (same_second (null_equal x y))

-- SingleResponse ::= SEQUENCE { certID CertID, certStatus CertStatus, thisUpdate GeneralizedTime, nextUpdate [0]
--   EXPLICIT GeneralizedTime OPTIONAL, singleExtensions [1] EXPLICIT Extensions OPTIONAL } (RFC 6960, 4.2.1)
abbrev pub single_response : Contents
single_response =
    contents (SEQUENCE cert_id then cert_status then GENERALIZED_TIME then EXPLICIT 0 GENERALIZED_TIME OPTIONAL
    EXPLICIT 1 (SEQUENCE extensions) OPTIONAL end) refl

abbrev pub single_response_value : SingleResponse → single_response.Value
single_response_value x = (cert_id_value x.cert_id, (cert_status_value x.cert_status, (moment_of_generalized x.this_update.0, (option_value (λ y. moment_of_generalized y.0.0) x.next_update, (option_value (λ y. extensions_value y.0) x.single_extensions, tt)))))

pub single_response_equal : SeesEqual SingleResponseEq.ghosts.eq single_response_value
single_response_equal x y = two_equal (cert_id_equal x.cert_id y.cert_id) (two_equal (cert_status_equal x.cert_status y.cert_status) (two_equal (equal_generalized x.this_update.0 y.this_update.0) (two_equal (option_equal _ (λ y. moment_of_generalized y.0.0) (λ x y. equal_generalized x.0.0 y.0.0) x.next_update y.next_update) (with_end (option_equal _ (λ y. extensions_value y.0) (λ x y. extensions_equal x.0 y.0) x.single_extensions y.single_extensions)))))

-- ResponseData ::= SEQUENCE { version [0] EXPLICIT Version DEFAULT v1, responderID ResponderID, producedAt
--   GeneralizedTime, responses SEQUENCE OF SingleResponse, responseExtensions [1] EXPLICIT Extensions OPTIONAL }
--   (RFC 6960, 4.2.1)
abbrev pub response_data : Contents
response_data =
    contents (EXPLICIT_default 0 (INTEGER_or 0 refl) DEFAULT responder_id then GENERALIZED_TIME then SEQUENCE_OF
    (SEQUENCE single_response) then EXPLICIT 1 (SEQUENCE extensions) OPTIONAL end) refl

abbrev pub response_data_value : ResponseData → response_data.Value
response_data_value x = (x.version.0.0, (responder_id_value x.responder_id, (moment_of_generalized x.produced_at.0, (map single_response_value x.responses.0.items, (option_value (λ y. extensions_value y.0) x.response_extensions, tt)))))

pub response_data_equal : SeesEqual ResponseDataEq.ghosts.eq response_data_value
response_data_equal x y = two_equal (Decides-eqb x.version.0.0 y.version.0.0) (two_equal (responder_id_equal x.responder_id y.responder_id) (two_equal (equal_generalized x.produced_at.0 y.produced_at.0) (two_equal (list_equal _ single_response_value single_response_equal x.responses.0.items y.responses.0.items) (with_end (option_equal _ (λ y. extensions_value y.0) (λ x y. extensions_equal x.0 y.0) x.response_extensions y.response_extensions)))))

-- BasicOCSPResponse ::= SEQUENCE { tbsResponseData ResponseData, signatureAlgorithm AlgorithmIdentifier, signature
--   BIT STRING, certs [0] EXPLICIT SEQUENCE OF Certificate OPTIONAL } (RFC 6960, 4.2.1)
abbrev pub basic_ocsp_response : Contents
basic_ocsp_response =
    contents (SEQUENCE response_data then SEQUENCE algorithm_identifier then BIT_STRING then EXPLICIT 0
    (SEQUENCE_OF (SEQUENCE certificate)) OPTIONAL end) refl

abbrev pub basic_ocsp_response_value : BasicOcspResponse → basic_ocsp_response.Value
basic_ocsp_response_value x = (response_data_value x.tbs_response_data, (algorithm_identifier_value x.signature_algorithm, (contents_of x.signature.0, (option_value (λ y. map certificate_value y.0.0.items) x.certs, tt))))

pub basic_ocsp_response_equal : SeesEqual BasicOcspResponseEq.ghosts.eq basic_ocsp_response_value
basic_ocsp_response_equal x y = two_equal (response_data_equal x.tbs_response_data y.tbs_response_data) (two_equal (algorithm_identifier_equal x.signature_algorithm y.signature_algorithm) (two_equal (bits_equal x.signature y.signature) (with_end (option_equal _ (λ y. map certificate_value y.0.0.items) (λ x y. list_equal _ certificate_value certificate_equal x.0.0.items y.0.0.items) x.certs y.certs))))

-- BasicResponseBytes ::= SEQUENCE { responseType OBJECT IDENTIFIER, response OCTET STRING (CONTAINING
--   BasicOCSPResponse) } (RFC 6960, 4.2.1)
abbrev pub basic_response_bytes : Contents
basic_response_bytes =
    contents (OBJECT_IDENTIFIER then OCTET_STRING_CONTAINING (SEQUENCE basic_ocsp_response) then end) refl

abbrev pub basic_response_bytes_value : BasicResponseBytes → basic_response_bytes.Value
basic_response_bytes_value x = (octets_of x.response_type.0, (basic_ocsp_response_value x.response.0, tt))

pub basic_response_bytes_equal : SeesEqual BasicResponseBytesEq.ghosts.eq basic_response_bytes_value
basic_response_bytes_equal x y = two_equal (oid_equal x.response_type y.response_type) (with_end (basic_ocsp_response_equal x.response.0 y.response.0))

-- ServiceLocator ::= SEQUENCE { issuer Name, locator AuthorityInfoAccessSyntax } (RFC 6960, 4.4.6)
abbrev pub service_locator : Contents
service_locator =
    contents (SEQUENCE name then authority_info_access_syntax then end) refl

abbrev pub service_locator_value : ServiceLocator → service_locator.Value
service_locator_value x = (name_parts x.issuer, (map access_description_value x.locator.0.items, tt))

pub service_locator_equal : SeesEqual ServiceLocatorEq.ghosts.eq service_locator_value
service_locator_equal x y = two_equal (name_equal x.issuer y.issuer) (with_end (list_equal _ access_description_value access_description_equal x.locator.0.items y.locator.0.items))

-- CrlID ::= SEQUENCE { crlUrl [0] EXPLICIT IA5String OPTIONAL, crlNum [1] EXPLICIT INTEGER OPTIONAL, crlTime [2]
--   EXPLICIT GeneralizedTime OPTIONAL } (RFC 6960, 4.4.2)
abbrev pub crl_id : Contents
crl_id =
    contents (EXPLICIT 0 IA5_STRING OPTIONAL EXPLICIT 1 INTEGER OPTIONAL EXPLICIT 2 GENERALIZED_TIME OPTIONAL end)
    refl

abbrev pub crl_id_value : CrlId → crl_id.Value
crl_id_value x = (option_value (λ y. octets_of_ia5 y.0.0) x.crl_url, (option_value (λ y. y.0.0.items) x.crl_num, (option_value (λ y. moment_of_generalized y.0.0) x.crl_time, tt)))

pub crl_id_equal : SeesEqual CrlIdEq.ghosts.eq crl_id_value
crl_id_equal x y = two_equal (option_equal _ (λ y. octets_of_ia5 y.0.0) (λ x y. ia5_equal x.0 y.0) x.crl_url y.crl_url) (two_equal (option_equal _ (λ y. y.0.0.items) (λ x y. integer_equal x.0 y.0) x.crl_num y.crl_num) (with_end (option_equal _ (λ y. moment_of_generalized y.0.0) (λ x y. equal_generalized x.0.0 y.0.0) x.crl_time y.crl_time)))

-- AcceptableResponses ::= SEQUENCE OF OBJECT IDENTIFIER (RFC 6960, 4.4.3)
abbrev pub acceptable_responses : Asn1
acceptable_responses = SEQUENCE_OF OBJECT_IDENTIFIER

-- ArchiveCutoff ::= GeneralizedTime (RFC 6960, 4.4.4)
abbrev pub archive_cutoff : Asn1
archive_cutoff = GENERALIZED_TIME

-- PreferredSignatureAlgorithm ::= SEQUENCE { sigIdentifier AlgorithmIdentifier, certIdentifier AlgorithmIdentifier
--   OPTIONAL } (RFC 6960, 4.4.7.1)
abbrev pub preferred_signature_algorithm : Contents
preferred_signature_algorithm =
    contents (SEQUENCE algorithm_identifier then SEQUENCE algorithm_identifier OPTIONAL end) refl

abbrev pub preferred_signature_algorithm_value : PreferredSignatureAlgorithm → preferred_signature_algorithm.Value
preferred_signature_algorithm_value x = (algorithm_identifier_value x.sig_identifier, (option_value algorithm_identifier_value x.cert_identifier, tt))

pub preferred_signature_algorithm_equal : SeesEqual PreferredSignatureAlgorithmEq.ghosts.eq preferred_signature_algorithm_value
preferred_signature_algorithm_equal x y = two_equal (algorithm_identifier_equal x.sig_identifier y.sig_identifier) (with_end (option_equal _ algorithm_identifier_value algorithm_identifier_equal x.cert_identifier y.cert_identifier))

-- PreferredSignatureAlgorithms ::= SEQUENCE OF PreferredSignatureAlgorithm (RFC 6960, 4.4.7.1)
abbrev pub preferred_signature_algorithms : Asn1
preferred_signature_algorithms = SEQUENCE_OF (SEQUENCE preferred_signature_algorithm)
