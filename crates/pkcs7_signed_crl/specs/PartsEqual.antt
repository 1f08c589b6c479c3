-- `==` is equality of what the values contain.
use Rattle.asn1_core.specs.Der.{SeesEqual, der_equal, octets_equal, raw_equal, same_first, same_second}
use Rattle.x509_base.specs.BaseEqual.{x509_equal}
use Rattle.std.proofs.Common.{rules}
use Rattle.asn1_leaves_strings.specs.Octets.{contents_of}
use Rattle.pkcs7_signed_crl.specs.Algorithms.{digest_algorithm_identifiers_value}
use Rattle.pkcs7_signed_crl.specs.Certificates.{certificate_choices_value, certificate_set_value}
use Rattle.pkcs7_signed_crl.specs.CertificateLists.{tbs_cert_list_value, certificate_list_value}
use Rattle.pkcs7_signed_crl.specs.Revocations.{other_revocation_info_format_value, revocation_info_choice_value, revocation_info_choices_value}
use Rattle.pkcs7_signed_crl.specs.Revoked.{revoked_certificate_value, revoked_certificates_value}
use Rattle.pkcs7_signed_crl.specs.SignerParts.{certificate_serial_number_value, issuer_and_serial_number_value, signer_identifier_value}
use Rattle.pkcs7_signed_crl.specs.declared.certificates.CertificateChoices.TheVariants as Choices
use Rattle.pkcs7_signed_crl.specs.declared.revocations.RevocationInfoChoice.TheVariants as Revocations
use Rattle.pkcs7_signed_crl.specs.declared.signers.SignerIdentifier.TheVariants as By
use Rattle.asn1_leaves.specs.contracts.bits.BitStringAsn1PartialEq.TheImpl as Bits
use Rattle.pkcs7_signed_crl.specs.contracts.algorithms.DigestAlgorithmIdentifiersPartialEq.TheImpl as Algorithms
use Rattle.pkcs7_signed_crl.specs.contracts.certificates.CertificateChoicesPartialEq.TheImpl as Certificate
use Rattle.pkcs7_signed_crl.specs.contracts.certificates.CertificateSetPartialEq.TheImpl as Certificates
use Rattle.pkcs7_signed_crl.specs.contracts.certificate_lists.TbsCertListPartialEq.TheImpl as TbsList
use Rattle.pkcs7_signed_crl.specs.contracts.certificate_lists.CertificateListPartialEq.TheImpl as SignedList
use Rattle.pkcs7_signed_crl.specs.contracts.revocations.OtherRevocationInfoFormatPartialEq.TheImpl as OtherFormat
use Rattle.pkcs7_signed_crl.specs.contracts.revocations.RevocationInfoChoicePartialEq.TheImpl as Revocation
use Rattle.pkcs7_signed_crl.specs.contracts.revocations.RevocationInfoChoicesPartialEq.TheImpl as AllRevocations
use Rattle.pkcs7_signed_crl.specs.contracts.revoked.RevokedCertificatePartialEq.TheImpl as Revoked
use Rattle.pkcs7_signed_crl.specs.contracts.revoked.RevokedCertificatesPartialEq.TheImpl as AllRevoked
use Rattle.pkcs7_signed_crl.specs.contracts.signers.CertificateSerialNumberPartialEq.TheImpl as Serial
use Rattle.pkcs7_signed_crl.specs.contracts.signers.IssuerAndSerialNumberPartialEq.TheImpl as IssuerSerial
use Rattle.pkcs7_signed_crl.specs.contracts.signers.SignerIdentifierPartialEq.TheImpl as SignerId

pub digest_algorithm_identifiers_equal : SeesEqual Algorithms.ghosts.eq digest_algorithm_identifiers_value
digest_algorithm_identifiers_equal x y = search x509_equal depth 20

pub certificate_serial_number_equal : SeesEqual Serial.ghosts.eq certificate_serial_number_value
certificate_serial_number_equal x y = search der_equal depth 20

pub issuer_and_serial_number_equal : SeesEqual IssuerSerial.ghosts.eq issuer_and_serial_number_value
issuer_and_serial_number_equal x y = search x509_equal depth 20

pub signer_identifier_equal : SeesEqual SignerId.ghosts.eq signer_identifier_value
signer_identifier_equal (By.IssuerAndSerialNumber x) (By.IssuerAndSerialNumber y) = same_first (issuer_and_serial_number_equal x y)
signer_identifier_equal (By.IssuerAndSerialNumber x) (By.SubjectKeyIdentifier y) = (λ e. cc, λ e. cc)
signer_identifier_equal (By.SubjectKeyIdentifier x) (By.IssuerAndSerialNumber y) = (λ e. cc, λ e. cc)
signer_identifier_equal (By.SubjectKeyIdentifier x) (By.SubjectKeyIdentifier y) = same_second (octets_equal x.0.0 y.0.0)

pub certificate_choices_equal : SeesEqual Certificate.ghosts.eq certificate_choices_value
certificate_choices_equal (Choices.Certificate x) (Choices.Certificate y) = same_first (raw_equal x y)
certificate_choices_equal (Choices.Certificate x) (Choices.Other y) = (λ e. cc, λ e. cc)
certificate_choices_equal (Choices.Other x) (Choices.Certificate y) = (λ e. cc, λ e. cc)
certificate_choices_equal (Choices.Other x) (Choices.Other y) = same_second (raw_equal x y)

pub certificate_set_equal : SeesEqual Certificates.ghosts.eq certificate_set_value
certificate_set_equal x y = search (der_equal, certificate_choices_equal) depth 20

pub revoked_certificate_equal : SeesEqual Revoked.ghosts.eq revoked_certificate_value
revoked_certificate_equal x y = search x509_equal depth 20

pub revoked_certificates_equal : SeesEqual AllRevoked.ghosts.eq revoked_certificates_value
revoked_certificates_equal x y = search (der_equal, revoked_certificate_equal) depth 20

pub tbs_cert_list_equal : SeesEqual TbsList.ghosts.eq tbs_cert_list_value
tbs_cert_list_equal x y = search (x509_equal, revoked_certificates_equal) depth 20

bits_equal : SeesEqual Bits.ghosts.eq (λ x. contents_of x.0)
bits_equal x y = search rules

pub certificate_list_equal : SeesEqual SignedList.ghosts.eq certificate_list_value
certificate_list_equal x y = search (x509_equal, tbs_cert_list_equal, bits_equal) depth 20

pub other_revocation_info_format_equal : SeesEqual OtherFormat.ghosts.eq other_revocation_info_format_value
other_revocation_info_format_equal x y = search rules

pub revocation_info_choice_equal : SeesEqual Revocation.ghosts.eq revocation_info_choice_value
revocation_info_choice_equal (Revocations.Crl x) (Revocations.Crl y) = same_first (certificate_list_equal x y)
revocation_info_choice_equal (Revocations.Crl x) (Revocations.Other y) = (λ e. cc, λ e. cc)
revocation_info_choice_equal (Revocations.Other x) (Revocations.Crl y) = (λ e. cc, λ e. cc)
revocation_info_choice_equal (Revocations.Other x) (Revocations.Other y) = same_second (other_revocation_info_format_equal x.0 y.0)

pub revocation_info_choices_equal : SeesEqual AllRevocations.ghosts.eq revocation_info_choices_value
revocation_info_choices_equal x y = search (der_equal, revocation_info_choice_equal) depth 20
