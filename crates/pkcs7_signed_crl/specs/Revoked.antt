-- Items of revokedCertificates SEQUENCE OF SEQUENCE { userCertificate CertificateSerialNumber, revocationDate Time,
--   crlEntryExtensions Extensions OPTIONAL } (RFC 5280, 5.1)
use Rattle.std.specs.Prelude.{map}
use Rattle.std.proofs.Common.{refl}
use Rattle.asn1_core.specs.Asn1.{Contents, contents, ◌then◌, ◌OPTIONAL◌, end, SEQUENCE, list_of}
use Rattle.asn1_core.specs.Der.{option_value}
use Rattle.x509_base.specs.Extensions.{extensions_value, extensions}
use Rattle.x509_base.specs.Times.{time_value, time}
use Rattle.pkcs7_signed_crl.specs.SignerParts.{certificate_serial_number, certificate_serial_number_value}
use Rattle.pkcs7_signed_crl.specs.declared.revoked.RevokedCertificate.{RevokedCertificate}
use Rattle.pkcs7_signed_crl.specs.declared.revoked.RevokedCertificates.{RevokedCertificates}

abbrev pub revoked_certificate : Contents
revoked_certificate = contents (certificate_serial_number then time then SEQUENCE extensions OPTIONAL end) refl

abbrev pub revoked_certificate_value : RevokedCertificate → revoked_certificate.Value
revoked_certificate_value x = (certificate_serial_number_value x.user_certificate, (time_value x.revocation_data, (option_value extensions_value x.crl_entry_extensions, tt)))

abbrev pub revoked_certificates : Contents
revoked_certificates = list_of (SEQUENCE revoked_certificate)

abbrev pub revoked_certificates_value : RevokedCertificates → revoked_certificates.Value
revoked_certificates_value x = map revoked_certificate_value x.0.0.items
