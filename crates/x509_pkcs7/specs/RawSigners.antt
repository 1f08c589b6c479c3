-- Signers of every version, whose unsigned attributes keep their values as they are (RFC 5652, 5.3).
use Rattle.std.proofs.Common.{refl}
use Rattle.asn1_core.specs.Asn1.{Asn1Default, Contents, contents, ◌then◌, ◌DEFAULT◌, end, INTEGER_BELOW, OCTET_STRING, SEQUENCE}
use Rattle.asn1_core.specs.Der.{SeesEqual, two_equal, with_end, octets_equal}
use Rattle.pkcs7_content.specs.Versions.{number_of}
use Rattle.pkcs7_attributes.specs.Attributes.{attributes, attributes_value, no_attributes}
use Rattle.pkcs7_attributes.specs.laws.Attributes.{no_attributes_left_out}
use Rattle.pkcs7_attributes.specs.UnsignedAttributes.{raw_unsigned_attributes, raw_unsigned_attributes_value, raw_unsigned_attributes_equal, no_unsigned_attributes}
use Rattle.pkcs7_attributes.specs.laws.UnsignedAttributes.{no_unsigned_attributes_left_out}
use Rattle.pkcs7_signed_crl.specs.SignerParts.{signer_identifier_value, signer_identifier}
use Rattle.x509_base.specs.Algorithms.{algorithm_identifier}
use Rattle.x509_base.specs.AlgorithmParts.{algorithm_identifier_value, algorithm_identifier_equal}
use Rattle.x509_pkcs7.specs.declared.raw_signers.RawSignerInfo.{RawSignerInfo}
use Rattle.pkcs7_attributes.specs.AttributesEqual.{attributes_equal}
use Rattle.pkcs7_signed_crl.specs.PartsEqual.{signer_identifier_equal}
use Rattle.pkcs7_enveloped.specs.Versions.{version_equal}
use Rattle.x509_pkcs7.specs.contracts.raw_signers.RawSignerInfoPartialEq.TheImpl as Signer

abbrev pub SIGNED_ATTRIBUTES : Asn1Default
SIGNED_ATTRIBUTES = record { type = attributes; text = no_attributes; inside = 0; left_out = no_attributes_left_out }

abbrev pub UNSIGNED_ATTRIBUTES : Asn1Default
UNSIGNED_ATTRIBUTES = record { type = raw_unsigned_attributes; text = no_unsigned_attributes; inside = 0; left_out = no_unsigned_attributes_left_out }

-- SignerInfo ::= SEQUENCE { version CMSVersion, sid SignerIdentifier, digestAlgorithm DigestAlgorithmIdentifier,
--   signedAttrs [0] IMPLICIT SignedAttributes OPTIONAL, signatureAlgorithm SignatureAlgorithmIdentifier, signature
--   SignatureValue, unsignedAttrs [1] IMPLICIT UnsignedAttributes OPTIONAL }, an empty set being left out
abbrev pub raw_signer_info : Contents
raw_signer_info =
    contents (INTEGER_BELOW 6 then signer_identifier then SEQUENCE algorithm_identifier then SIGNED_ATTRIBUTES DEFAULT
    SEQUENCE algorithm_identifier then OCTET_STRING then UNSIGNED_ATTRIBUTES DEFAULT end) refl

abbrev pub raw_signer_info_value : RawSignerInfo → raw_signer_info.Value
raw_signer_info_value x = (
  number_of x.version,
  (
    signer_identifier_value x.sid,
    (
      algorithm_identifier_value x.digest_algorithm.0,
      (
        attributes_value x.signed_attrs.0,
        (algorithm_identifier_value x.signature_algorithm.0, (x.signature.0.0.items, (raw_unsigned_attributes_value x.unsigned_attrs.0, tt))),
      ),
    ),
  ),
)

pub raw_signer_equal : SeesEqual Signer.ghosts.eq raw_signer_info_value
raw_signer_equal x y =
    two_equal (version_equal x.version y.version)
    (two_equal (signer_identifier_equal x.sid y.sid)
    (two_equal (algorithm_identifier_equal x.digest_algorithm.0 y.digest_algorithm.0)
    (two_equal (attributes_equal x.signed_attrs.0 y.signed_attrs.0)
    (two_equal (algorithm_identifier_equal x.signature_algorithm.0 y.signature_algorithm.0)
    (two_equal (octets_equal x.signature.0 y.signature.0)
    (with_end (raw_unsigned_attributes_equal x.unsigned_attrs.0 y.unsigned_attrs.0)))))))
