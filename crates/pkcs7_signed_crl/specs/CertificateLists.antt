-- TBSCertList ::= SEQUENCE { version Version OPTIONAL, signature AlgorithmIdentifier, issuer Name, thisUpdate Time,
--   nextUpdate Time OPTIONAL, revokedCertificates SEQUENCE OF .. OPTIONAL, crlExtensions [0] EXPLICIT Extensions
--   OPTIONAL }, with v2 as its version where it has one (RFC 5280, 5.1)
use Rattle.std.proofs.Common.{refl}
use Rattle.asn1_core.specs.Asn1.{asn1, Contents, contents, ◌then◌, ◌OPTIONAL◌, end, EXPLICIT, SEQUENCE, VERSION}
use Rattle.asn1_core.specs.Der.{option_value}
use Rattle.asn1_leaves.specs.Asn1.{BIT_STRING}
use Rattle.asn1_leaves_strings.specs.Octets.{contents_of}
use Rattle.x509_base.specs.Algorithms.{algorithm_identifier}
use Rattle.x509_base.specs.AlgorithmParts.{algorithm_identifier_value}
use Rattle.x509_base.specs.Extensions.{extensions_value, extensions}
use Rattle.x509_base.specs.Names.{name_parts, name}
use Rattle.x509_base.specs.Times.{time_value, time}
use Rattle.x509_base.specs.Versions.{version_value}
use Rattle.pkcs7_signed_crl.specs.Revoked.{revoked_certificates, revoked_certificates_value}
use Rattle.pkcs7_signed_crl.specs.declared.certificate_lists.TbsCertList.{TbsCertList}
use Rattle.pkcs7_signed_crl.specs.declared.certificate_lists.CertificateList.{CertificateList}

abbrev pub tbs_cert_list : Contents
tbs_cert_list = contents (
    VERSION 1 refl OPTIONAL SEQUENCE algorithm_identifier then SEQUENCE name then time then
    time OPTIONAL SEQUENCE revoked_certificates OPTIONAL EXPLICIT 0 (SEQUENCE extensions) OPTIONAL end
    ) refl

abbrev pub tbs_cert_list_value : TbsCertList → tbs_cert_list.Value
tbs_cert_list_value x = (option_value version_value x.version, (algorithm_identifier_value x.signature, (name_parts x.issuer, (time_value x.this_update, (option_value time_value x.next_update, (option_value revoked_certificates_value x.revoked_certificates, (option_value extensions_value x.crl_extension.0, tt)))))))

-- CertificateList ::= SEQUENCE { tbsCertList TBSCertList, signatureAlgorithm AlgorithmIdentifier, signatureValue BIT
--   STRING }
abbrev pub certificate_list : Contents
certificate_list = contents (SEQUENCE tbs_cert_list then SEQUENCE algorithm_identifier then BIT_STRING then end) refl

abbrev pub certificate_list_value : CertificateList → certificate_list.Value
certificate_list_value x = (tbs_cert_list_value x.tbs_cert_list, (algorithm_identifier_value x.signature_algorithm, (contents_of x.signature_value.0, tt)))
