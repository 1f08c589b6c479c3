-- Certificates, as far as a verifier of signed data looks into them (RFC 5280, 4.1).
use Rattle.std.specs.Prelude.{List, map}
use Rattle.std.proofs.Common.{rules, refl}
use Rattle.asn1_core.specs.Asn1.{ComponentTypes, all_distinct, Contents, contents, ◌then◌, ◌OPTIONAL◌, end, ANY, EXPLICIT, INTEGER_BELOW, SEQUENCE}
use Rattle.asn1_core.specs.Der.{each, lawful_each, raw, lawful_raw, option_value, SeesEqual, ElementOctets}
use Rattle.asn1_leaves.specs.Asn1.{BIT_STRING, INTEGER}
use Rattle.asn1_leaves.specs.contracts.bits.BitStringAsn1PartialEq.TheImpl as Bits
use Rattle.asn1_leaves_strings.specs.Octets.{contents_of}
use Rattle.pkcs7_signed_crl.specs.SignerParts.{certificate_serial_number_value}
use Rattle.x509_base.specs.Algorithms.{algorithm_identifier}
use Rattle.x509_base.specs.AlgorithmParts.{algorithm_identifier_value}
use Rattle.x509_base.specs.BaseEqual.{x509_equal}
use Rattle.x509_base.specs.Names.{name_parts, name}
use Rattle.x509_base.specs.Versions.{version_value}
use Rattle.pkcs7_verifier.specs.declared.heads.TbsCertificateHead.{TbsCertificateHead}
use Rattle.pkcs7_verifier.specs.declared.heads.CertificateHead.{CertificateHead}
use Rattle.pkcs7_verifier.specs.contracts.heads.TbsCertificateHeadPartialEq.TheImpl as TbsEq
use Rattle.pkcs7_verifier.specs.contracts.heads.CertificateHeadPartialEq.TheImpl as HeadEq

-- each element to the end, as it is
abbrev pub REST : ComponentTypes
REST = record { Value = List ElementOctets; format = each raw; distinct = all_distinct; law = λ _. lawful_each raw lawful_raw }

-- TBSCertificate ::= SEQUENCE { version [0] Version DEFAULT v1, serialNumber CertificateSerialNumber, signature
--   AlgorithmIdentifier, issuer Name, validity Validity, subject Name, subjectPublicKeyInfo SubjectPublicKeyInfo,
--   issuerUniqueID [1] IMPLICIT UniqueIdentifier OPTIONAL, subjectUniqueID [2] IMPLICIT UniqueIdentifier OPTIONAL,
--   extensions [3] Extensions OPTIONAL }, with each element from issuerUniqueID on as it is
abbrev pub tbs_certificate_head : Contents
tbs_certificate_head =
    contents (EXPLICIT 0 (INTEGER_BELOW 3) OPTIONAL INTEGER then SEQUENCE algorithm_identifier then SEQUENCE name then ANY then
    SEQUENCE name then ANY then REST) refl

abbrev pub tbs_certificate_head_value : TbsCertificateHead → tbs_certificate_head.Value
tbs_certificate_head_value x = (
  option_value version_value x.version,
  (
    certificate_serial_number_value x.serial_number,
    (
      algorithm_identifier_value x.signature,
      (
        name_parts x.issuer,
        (x.validity.0.items, (name_parts x.subject, (x.subject_public_key_info.0.items, map (λ e. e.0.items) x.rest.items))),
      ),
    ),
  ),
)

pub tbs_head_equal : SeesEqual TbsEq.ghosts.eq tbs_certificate_head_value
tbs_head_equal x y = search x509_equal depth 20

-- Certificate ::= SEQUENCE { tbsCertificate TBSCertificate, signatureAlgorithm AlgorithmIdentifier, signature BIT
--   STRING }
abbrev pub certificate_head : Contents
certificate_head = contents (SEQUENCE tbs_certificate_head then SEQUENCE algorithm_identifier then BIT_STRING then end) refl

abbrev pub certificate_head_value : CertificateHead → certificate_head.Value
certificate_head_value x = (tbs_certificate_head_value x.tbs_certificate, (algorithm_identifier_value x.signature_algorithm, (contents_of x.signature.0, tt)))

bits_equal : SeesEqual Bits.ghosts.eq (λ x. contents_of x.0)
bits_equal x y = search rules

pub certificate_equal : SeesEqual HeadEq.ghosts.eq certificate_head_value
certificate_equal x y = search (x509_equal, tbs_head_equal, bits_equal) depth 20
