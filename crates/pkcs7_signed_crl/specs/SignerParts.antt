-- What identifies the signer of a signature.
-- CertificateSerialNumber ::= INTEGER (RFC 5280, 4.1)
-- SignerIdentifier ::= CHOICE { issuerAndSerialNumber IssuerAndSerialNumber, subjectKeyIdentifier [0]
--   SubjectKeyIdentifier } (RFC 5652, 5.3)
use Rattle.std.proofs.Common.{inl, inr, refl}
use Rattle.asn1_core.specs.Asn1.{Asn1, asn1, Contents, contents, ◌then◌, end, CHOICE, IMPLICIT, OCTET_STRING, SEQUENCE}
use Rattle.asn1_leaves.specs.Asn1.{INTEGER}
use Rattle.x509_base.specs.Names.{name_parts, name}
use Rattle.pkcs7_signed_crl.specs.declared.signers.CertificateSerialNumber.{CertificateSerialNumber}
use Rattle.pkcs7_signed_crl.specs.declared.signers.IssuerAndSerialNumber.{IssuerAndSerialNumber}
use Rattle.pkcs7_signed_crl.specs.declared.signers.SignerIdentifier.{SignerIdentifier}
use Rattle.pkcs7_signed_crl.specs.declared.signers.SignerIdentifier.TheVariants as By

abbrev pub certificate_serial_number : Asn1
certificate_serial_number = INTEGER

abbrev pub certificate_serial_number_value : CertificateSerialNumber → certificate_serial_number.Value
certificate_serial_number_value x = x.0.0.items

-- IssuerAndSerialNumber ::= SEQUENCE { issuer Name, serialNumber CertificateSerialNumber } (RFC 5652, 10.2.4)
abbrev pub issuer_and_serial_number : Contents
issuer_and_serial_number = contents (SEQUENCE name then certificate_serial_number then end) refl

abbrev pub issuer_and_serial_number_value : IssuerAndSerialNumber → issuer_and_serial_number.Value
issuer_and_serial_number_value x = (name_parts x.issuer, (certificate_serial_number_value x.serial_number, tt))

abbrev pub signer_identifier : Asn1
signer_identifier = CHOICE (SEQUENCE issuer_and_serial_number) (IMPLICIT 0 OCTET_STRING) refl

abbrev pub signer_identifier_value : SignerIdentifier → signer_identifier.Value
signer_identifier_value (By.IssuerAndSerialNumber i) = inl (issuer_and_serial_number_value i)
signer_identifier_value (By.SubjectKeyIdentifier k) = inr k.0.0.0.items
