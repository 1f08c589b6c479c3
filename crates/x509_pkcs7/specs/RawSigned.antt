-- SignedData ::= SEQUENCE { version CMSVersion, digestAlgorithms DigestAlgorithmIdentifiers, encapContentInfo
--   EncapsulatedContentInfo, certificates [0] IMPLICIT CertificateSet OPTIONAL, crls [1] IMPLICIT
--   RevocationInfoChoices OPTIONAL, signerInfos SignerInfos } (RFC 5652, 5.1), over the signers' format
-- ContentInfo ::= SEQUENCE { contentType ContentType, content [0] EXPLICIT ANY DEFINED BY contentType } (RFC 5652, 3)
--   of id-signedData
use Rattle.asn1_core.specs.Asn1.{Asn1, asn1_tagged, ANY, SEQUENCE}
use Rattle.std.specs.Prelude.{ℕ, List, Option, map, ◌&&◌, Bool}
use Rattle.std.proofs.Common.{arith}
use Rattle.asn1_core.specs.Der.{Format, sequence, part, optional, nothing, number_below, set_of, each, explicit, within_tagged, only_oid, option_value, ElementOctets, omitted, is_default, lawful_implicit_set, SeesEqual, der_equal, two_equal, with_end, list_equal, option_equal}
use Rattle.pkcs7_content.specs.Versions.{number_of}
use Rattle.pkcs7_signed_crl.specs.Algorithms.{digest_algorithm_identifiers_value, digest_algorithm_identifiers}
use Rattle.pkcs7_signed_crl.specs.Certificates.{certificate_choices, certificate_set_value, certificate_set, no_certificates}
use Rattle.x509_base.specs.Algorithms.{algorithm_identifier}
use Rattle.x509_pkcs7.specs.RawContents.{raw_encapsulated_content_info, raw_encapsulated_content_info_value, raw_encapsulated_equal}
use Rattle.x509_pkcs7.specs.declared.raw_signed.RawSignedData.{RawSignedData}
use Rattle.x509_pkcs7.specs.declared.raw_signed.RawRevocationInfoChoices.{RawRevocationInfoChoices}
use Rattle.std.specs.Option.{option_eq}
use lib.Pointwise.{pointwise}
use Rattle.pkcs7_signed_crl.specs.PartsEqual.{digest_algorithm_identifiers_equal, certificate_set_equal}
use Rattle.pkcs7_enveloped.specs.Versions.{version_equal}
use Rattle.pkcs7_content.specs.contracts.versions.CmsVersionPartialEq.TheImpl as Version
use Rattle.pkcs7_signed_crl.specs.contracts.algorithms.DigestAlgorithmIdentifiersPartialEq.TheImpl as Algorithms
use Rattle.x509_pkcs7.specs.contracts.raw_contents.RawEncapsulatedContentInfoPartialEq.TheImpl as Encapsulated
use Rattle.pkcs7_signed_crl.specs.contracts.certificates.CertificateSetPartialEq.TheImpl as Certificates
use Rattle.x509_pkcs7.specs.contracts.raw_signed.RawRevocationInfoChoicesPartialEq.TheImpl as Revocations
pub use Rattle.pkcs7_signed.specs.Oids.{signed_data_oid}

-- RevocationInfoChoices, each as it is
abbrev pub raw_revocation_info_choices : Asn1
raw_revocation_info_choices = asn1_tagged (lawful_implicit_set (omega arith) ANY.law) 0xA1 (within_tagged 0xA1 (omega arith) (each ANY.format))

abbrev pub raw_revocation_info_choices_value : RawRevocationInfoChoices → raw_revocation_info_choices.Value
raw_revocation_info_choices_value x = map (λ e. e.0.items) x.0.items

-- what follows the content
abbrev pub SetsValue : Type 0 → Type 0
SetsValue V = List certificate_choices.Value × (Option (List ElementOctets) × (List V × Unit {0}))

abbrev pub RawSignedValue : Type 0 → Type 0
RawSignedValue V = ℕ × (List algorithm_identifier.Value × (raw_encapsulated_content_info.Value × SetsValue V))

abbrev pub raw_signed_value : {S V : Type 0} → (S → V) → RawSignedData S → RawSignedValue V
raw_signed_value value x = (
  number_of x.version,
  (
    digest_algorithm_identifiers_value x.digest_algorithms,
    (
      raw_encapsulated_content_info_value x.content_info,
      (certificate_set_value x.certificates.0, (option_value raw_revocation_info_choices_value x.crls, (map value x.signers_infos.0.0.items, tt))),
    ),
  ),
)

module _ {V : Type 0} where
  abbrev pub sets_components : Format V → Format (SetsValue V)
  sets_components F = omitted (is_default certificate_set.format no_certificates) no_certificates certificate_set.format (optional raw_revocation_info_choices.format (part (set_of F) nothing))

  abbrev pub raw_signed : Format V → Format (RawSignedValue V)
  raw_signed F = sequence (part (number_below 6) (part digest_algorithm_identifiers.format (part (SEQUENCE raw_encapsulated_content_info).format (sets_components F))))

abbrev pub RawCertificateValue : Type 0 → Type 0
RawCertificateValue V = List ℕ × (RawSignedValue V × Unit {0})

abbrev pub raw_certificate : {V : Type 0} → Format V → Format (RawCertificateValue V)
raw_certificate F = sequence (part (only_oid signed_data_oid) (part (explicit 0 (raw_signed F)) nothing))

pub raw_revocation_info_choices_equal : SeesEqual Revocations.ghosts.eq raw_revocation_info_choices_value
raw_revocation_info_choices_equal x y = search der_equal depth 20

-- over the test and the value of signers
abbrev pub signed_test : {S : Type 0} → (S → S → Bool) → RawSignedData S → RawSignedData S → Bool
signed_test eq x y =
    Version.ghosts.eq x.version y.version && (Algorithms.ghosts.eq x.digest_algorithms y.digest_algorithms
    && (Encapsulated.ghosts.eq x.content_info y.content_info && (Certificates.ghosts.eq x.certificates.0 y.certificates.0
    && (option_eq Revocations.ghosts.eq x.crls y.crls && pointwise eq x.signers_infos.0.0.items y.signers_infos.0.0.items))))

pub raw_signed_equal : {S V : Type 0} (eq : S → S → Bool) (value : S → V) → SeesEqual eq value → SeesEqual (signed_test eq) (raw_signed_value value)
raw_signed_equal eq value same x y =
    two_equal (version_equal x.version y.version)
    (two_equal (digest_algorithm_identifiers_equal x.digest_algorithms y.digest_algorithms)
    (two_equal (raw_encapsulated_equal x.content_info y.content_info)
    (two_equal (certificate_set_equal x.certificates.0 y.certificates.0)
    (two_equal (option_equal _ raw_revocation_info_choices_value raw_revocation_info_choices_equal x.crls y.crls)
    (with_end (list_equal eq value same x.signers_infos.0.0.items y.signers_infos.0.0.items))))))
