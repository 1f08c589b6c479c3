-- The types of PKIXTSP, made of rfc3161.asn1; not to be edited.
use Rattle.asn1_core.specs.Asn1.{ANY, Asn1, BOOLEAN_or_FALSE, Contents, EXPLICIT, IMPLICIT, INTEGER_BELOW, OBJECT_IDENTIFIER, OCTET_STRING, SEQUENCE, SEQUENCE_OF, contents, end, ◌then◌, ◌OPTIONAL◌, ◌DEFAULT◌}
use Rattle.asn1_leaves.specs.Asn1.{BIT_STRING, INTEGER, UTF8_STRING}
use Rattle.std.proofs.lemmas.Bool.Decides.{Decides-eqb}
use Rattle.asn1_module_leaves.specs.Asn1.{KEPT_STRING}
use Rattle.asn1_core.specs.Der.{SeesEqual, list_equal, octets_of, option_equal, option_value, raw_equal, two_equal, with_end}
use Rattle.x509_base.specs.Algorithms.{algorithm_identifier}
use Rattle.x509_base.specs.AlgorithmParts.{algorithm_identifier_equal, algorithm_identifier_value}
use Rattle.asn1_module_leaves.specs.LeavesEqual.{bits_equal, integer_equal, utf8_equal}
use Rattle.std.specs.Cmp.{booleans_Decides}
use Rattle.std.proofs.lemmas.Slice.Eq.{bytes_eq-Decides}
use Rattle.asn1_leaves_strings.specs.Octets.{contents_of, octets_of_utf8}
use Rattle.x509_base.specs.Extensions.{extensions, extensions_equal, extensions_value}
use Rattle.rfc5280.specs.Pkix1Implicit88.{general_name, general_name_equal, general_name_value}
use Rattle.std.specs.Prelude.{map, ◌^◌}
use Rattle.asn1_core.specs.laws.ViewsEqual.{oid_equal}
use Rattle.std.proofs.Common.{refl}
use Rattle.rfc3161.specs.declared.pkixtsp.MessageImprint.{MessageImprint}
use Rattle.rfc3161.specs.contracts.pkixtsp.MessageImprintPartialEq.TheImpl as MessageImprintEq
use Rattle.rfc3161.specs.declared.pkixtsp.TimeStampReq.{TimeStampReq}
use Rattle.rfc3161.specs.contracts.pkixtsp.TimeStampReqPartialEq.TheImpl as TimeStampReqEq
use Rattle.rfc3161.specs.declared.pkixtsp.PkiStatusInfo.{PkiStatusInfo}
use Rattle.rfc3161.specs.contracts.pkixtsp.PkiStatusInfoPartialEq.TheImpl as PkiStatusInfoEq
use Rattle.rfc3161.specs.declared.pkixtsp.ContentInfo.{ContentInfo}
use Rattle.rfc3161.specs.contracts.pkixtsp.ContentInfoPartialEq.TheImpl as ContentInfoEq
use Rattle.rfc3161.specs.declared.pkixtsp.TimeStampResp.{TimeStampResp}
use Rattle.rfc3161.specs.contracts.pkixtsp.TimeStampRespPartialEq.TheImpl as TimeStampRespEq
use Rattle.rfc3161.specs.declared.pkixtsp.Accuracy.{Accuracy}
use Rattle.rfc3161.specs.contracts.pkixtsp.AccuracyPartialEq.TheImpl as AccuracyEq
use Rattle.rfc3161.specs.declared.pkixtsp.TstInfo.{TstInfo}
use Rattle.rfc3161.specs.contracts.pkixtsp.TstInfoPartialEq.TheImpl as TstInfoEq

-- MessageImprint ::= SEQUENCE { hashAlgorithm AlgorithmIdentifier, hashedMessage OCTET STRING } (RFC 3161, 2.4.1)
abbrev pub message_imprint : Contents
message_imprint =
    contents (SEQUENCE algorithm_identifier then OCTET_STRING then end) refl

abbrev pub message_imprint_value : MessageImprint → message_imprint.Value
message_imprint_value x = (algorithm_identifier_value x.hash_algorithm, (x.hashed_message.0.items, tt))

pub message_imprint_equal : SeesEqual MessageImprintEq.ghosts.eq message_imprint_value
message_imprint_equal x y = two_equal (algorithm_identifier_equal x.hash_algorithm y.hash_algorithm) (with_end (bytes_eq-Decides x.hashed_message.0.items y.hashed_message.0.items))

-- TSAPolicyId ::= OBJECT IDENTIFIER (RFC 3161, 2.4.1)
abbrev pub tsa_policy_id : Asn1
tsa_policy_id = OBJECT_IDENTIFIER

-- TimeStampReq ::= SEQUENCE { version INTEGER { v1(1) }, messageImprint MessageImprint, reqPolicy TSAPolicyId
--   OPTIONAL, nonce INTEGER OPTIONAL, certReq BOOLEAN DEFAULT FALSE, extensions [0] IMPLICIT Extensions OPTIONAL }
--   (RFC 3161, 2.4.1)
abbrev pub time_stamp_req : Contents
time_stamp_req =
    contents (INTEGER_BELOW (2 ^ 8) then SEQUENCE message_imprint then tsa_policy_id OPTIONAL INTEGER OPTIONAL
    BOOLEAN_or_FALSE DEFAULT IMPLICIT 0 (SEQUENCE extensions) OPTIONAL end) refl

abbrev pub time_stamp_req_value : TimeStampReq → time_stamp_req.Value
time_stamp_req_value x = (x.version, (message_imprint_value x.message_imprint, (option_value (λ y. octets_of y.0) x.req_policy, (option_value (λ y. y.0.items) x.nonce, (x.cert_req, (option_value (λ y. extensions_value y.0) x.extensions, tt))))))

pub time_stamp_req_equal : SeesEqual TimeStampReqEq.ghosts.eq time_stamp_req_value
time_stamp_req_equal x y = two_equal (Decides-eqb x.version y.version) (two_equal (message_imprint_equal x.message_imprint y.message_imprint) (two_equal (option_equal _ (λ y. octets_of y.0) oid_equal x.req_policy y.req_policy) (two_equal (option_equal _ (λ y. y.0.items) integer_equal x.nonce y.nonce) (two_equal (booleans_Decides x.cert_req y.cert_req) (with_end (option_equal _ (λ y. extensions_value y.0) (λ x y. extensions_equal x.0 y.0) x.extensions y.extensions))))))

-- PKIStatus ::= INTEGER { granted(0), grantedWithMods(1), rejection(2), waiting(3), revocationWarning(4),
--   revocationNotification(5) } (RFC 4210, 5.2.3)
abbrev pub pki_status : Asn1
pki_status = INTEGER_BELOW (2 ^ 8)

-- PKIFreeText ::= SEQUENCE SIZE (1..MAX) OF UTF8String (RFC 4210, 5.2.3)
abbrev pub pki_free_text : Asn1
pki_free_text = SEQUENCE_OF UTF8_STRING

-- PKIFailureInfo ::= BIT STRING { badAlg(0), badRequest(2), badDataFormat(5), timeNotAvailable(14),
--   unacceptedPolicy(15), unacceptedExtension(16), addInfoNotAvailable(17), systemFailure(25) } (RFC 4210, 5.2.3)
abbrev pub pki_failure_info : Asn1
pki_failure_info = BIT_STRING

-- PKIStatusInfo ::= SEQUENCE { status PKIStatus, statusString PKIFreeText OPTIONAL, failInfo PKIFailureInfo
--   OPTIONAL } (RFC 4210, 5.2.3)
abbrev pub pki_status_info : Contents
pki_status_info =
    contents (pki_status then pki_free_text OPTIONAL pki_failure_info OPTIONAL end) refl

abbrev pub pki_status_info_value : PkiStatusInfo → pki_status_info.Value
pki_status_info_value x = (x.status, (option_value (λ y. map (λ y. octets_of_utf8 y.0) y.0.items) x.status_string, (option_value (λ y. contents_of y.0) x.fail_info, tt)))

pub pki_status_info_equal : SeesEqual PkiStatusInfoEq.ghosts.eq pki_status_info_value
pki_status_info_equal x y = two_equal (Decides-eqb x.status y.status) (two_equal (option_equal _ (λ y. map (λ y. octets_of_utf8 y.0) y.0.items) (λ x y. list_equal _ (λ y. octets_of_utf8 y.0) utf8_equal x.0.items y.0.items) x.status_string y.status_string) (with_end (option_equal _ (λ y. contents_of y.0) bits_equal x.fail_info y.fail_info)))

-- ContentInfo ::= SEQUENCE { contentType OBJECT IDENTIFIER, content [0] EXPLICIT ANY DEFINED BY contentType } (RFC
--   5652, 3)
abbrev pub content_info : Contents
content_info =
    contents (OBJECT_IDENTIFIER then EXPLICIT 0 ANY then end) refl

abbrev pub content_info_value : ContentInfo → content_info.Value
content_info_value x = (octets_of x.content_type.0, (x.content.0.0.items, tt))

pub content_info_equal : SeesEqual ContentInfoEq.ghosts.eq content_info_value
content_info_equal x y = two_equal (oid_equal x.content_type y.content_type) (with_end (raw_equal x.content.0 y.content.0))

-- TimeStampToken ::= ContentInfo (RFC 3161, 2.4.2)
abbrev pub time_stamp_token : Asn1
time_stamp_token = SEQUENCE content_info

-- TimeStampResp ::= SEQUENCE { status PKIStatusInfo, timeStampToken TimeStampToken OPTIONAL } (RFC 3161, 2.4.2)
abbrev pub time_stamp_resp : Contents
time_stamp_resp =
    contents (SEQUENCE pki_status_info then time_stamp_token OPTIONAL end) refl

abbrev pub time_stamp_resp_value : TimeStampResp → time_stamp_resp.Value
time_stamp_resp_value x = (pki_status_info_value x.status, (option_value content_info_value x.time_stamp_token, tt))

pub time_stamp_resp_equal : SeesEqual TimeStampRespEq.ghosts.eq time_stamp_resp_value
time_stamp_resp_equal x y = two_equal (pki_status_info_equal x.status y.status) (with_end (option_equal _ content_info_value content_info_equal x.time_stamp_token y.time_stamp_token))

-- Accuracy ::= SEQUENCE { seconds INTEGER OPTIONAL, millis [0] INTEGER (1..999) OPTIONAL, micros [1] INTEGER
--   (1..999) OPTIONAL } (RFC 3161, 2.4.2)
abbrev pub accuracy : Contents
accuracy =
    contents (INTEGER OPTIONAL IMPLICIT 0 (INTEGER_BELOW (2 ^ 32)) OPTIONAL IMPLICIT 1 (INTEGER_BELOW (2 ^ 32))
    OPTIONAL end) refl

abbrev pub accuracy_value : Accuracy → accuracy.Value
accuracy_value x = (option_value (λ y. y.0.items) x.seconds, (option_value (λ y. y.0) x.millis, (option_value (λ y. y.0) x.micros, tt)))

pub accuracy_equal : SeesEqual AccuracyEq.ghosts.eq accuracy_value
accuracy_equal x y = two_equal (option_equal _ (λ y. y.0.items) integer_equal x.seconds y.seconds) (two_equal (option_equal _ (λ y. y.0) (λ x y. Decides-eqb x.0 y.0) x.millis y.millis) (with_end (option_equal _ (λ y. y.0) (λ x y. Decides-eqb x.0 y.0) x.micros y.micros)))

-- TSTInfo ::= SEQUENCE { version INTEGER { v1(1) }, policy TSAPolicyId, messageImprint MessageImprint,
--   serialNumber INTEGER, genTime GeneralizedTime, accuracy Accuracy OPTIONAL, ordering BOOLEAN DEFAULT FALSE,
--   nonce INTEGER OPTIONAL, tsa [0] GeneralName OPTIONAL, extensions [1] IMPLICIT Extensions OPTIONAL } (RFC 3161,
--   2.4.2)
abbrev pub tst_info : Contents
tst_info =
    contents (INTEGER_BELOW (2 ^ 8) then tsa_policy_id then SEQUENCE message_imprint then INTEGER then KEPT_STRING
    0x18 then SEQUENCE accuracy OPTIONAL BOOLEAN_or_FALSE DEFAULT INTEGER OPTIONAL EXPLICIT 0 general_name OPTIONAL
    IMPLICIT 1 (SEQUENCE extensions) OPTIONAL end) refl

abbrev pub tst_info_value : TstInfo → tst_info.Value
tst_info_value x = (x.version, (octets_of x.policy.0, (message_imprint_value x.message_imprint, (x.serial_number.0.items, (x.gen_time.0.items, (option_value accuracy_value x.accuracy, (x.ordering, (option_value (λ y. y.0.items) x.nonce, (option_value (λ y. general_name_value y.0) x.tsa, (option_value (λ y. extensions_value y.0) x.extensions, tt))))))))))

pub tst_info_equal : SeesEqual TstInfoEq.ghosts.eq tst_info_value
tst_info_equal x y = two_equal (Decides-eqb x.version y.version) (two_equal (oid_equal x.policy y.policy) (two_equal (message_imprint_equal x.message_imprint y.message_imprint) (two_equal (integer_equal x.serial_number y.serial_number) (two_equal (bytes_eq-Decides x.gen_time.0.items y.gen_time.0.items) (two_equal (option_equal _ accuracy_value accuracy_equal x.accuracy y.accuracy) (two_equal (booleans_Decides x.ordering y.ordering) (two_equal (option_equal _ (λ y. y.0.items) integer_equal x.nonce y.nonce) (two_equal (option_equal _ (λ y. general_name_value y.0) (λ x y. general_name_equal x.0 y.0) x.tsa y.tsa) (with_end (option_equal _ (λ y. extensions_value y.0) (λ x y. extensions_equal x.0 y.0) x.extensions y.extensions))))))))))
