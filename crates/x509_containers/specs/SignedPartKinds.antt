-- Revocation lists, certificates, signers, as kinds of input: their words, and what inputs are written as.
use Rattle.asn1_core.specs.Asn1.{SEQUENCE}
use Rattle.std.specs.Prelude.{List, [], ◌∷◌, codes}
use Rattle.asn1_core.specs.Der.{octet_string}
use Rattle.asn1_leaves.specs.Integers.{integer}
use Rattle.pkcs7_signed_crl.specs.Algorithms.{digest_algorithm_identifiers}
use Rattle.pkcs7_attributes.specs.Attributes.{attributes}
use Rattle.pkcs7_signed_crl.specs.CertificateLists.{certificate_list, tbs_cert_list}
use Rattle.pkcs7_signed_crl.specs.Certificates.{certificate_choices, certificate_set}
use Rattle.pkcs7_signed_crl.specs.Revocations.{other_revocation_info_format, revocation_info_choice, revocation_info_choices}
use Rattle.pkcs7_signed_crl.specs.Revoked.{revoked_certificates, revoked_certificate}
use Rattle.pkcs7_signed_crl.specs.SignerParts.{issuer_and_serial_number, signer_identifier}
use Rattle.x509_base.specs.Algorithms.{algorithm_identifier}
use Rattle.x509_containers.specs.Entries.{Entry, entry}
use Rattle.x509_containers.specs.declared.kinds.signed_parts.SignedPartKind.{SignedPartKind}
use Rattle.x509_containers.specs.declared.kinds.signed_parts.SignedPartKind.TheVariants as Kind

abbrev pub entry_of : SignedPartKind → Entry
entry_of Kind.Attributes = entry (codes "attributes") attributes.format
entry_of Kind.CertificateChoices = entry (codes "certificatechoices") certificate_choices.format
entry_of Kind.CertificateList = entry (codes "certificatelist") (SEQUENCE certificate_list).format
entry_of Kind.CertificateSerialNumber = entry (codes "certificateserialnumber") integer
entry_of Kind.CertificateSet = entry (codes "certificateset") certificate_set.format
entry_of Kind.DigestAlgorithmIdentifier = entry (codes "digestalgorithmidentifier") (SEQUENCE algorithm_identifier).format
entry_of Kind.DigestAlgorithmIdentifiers = entry (codes "digestalgorithmidentifiers") digest_algorithm_identifiers.format
entry_of Kind.IssuerAndSerialNumber = entry (codes "issuerandserialnumber") (SEQUENCE issuer_and_serial_number).format
entry_of Kind.OtherRevocationInfoFormat = entry (codes "otherrevocationinfoformat") (SEQUENCE other_revocation_info_format).format
entry_of Kind.RevocationInfoChoice = entry (codes "revocationinfochoice") revocation_info_choice.format
entry_of Kind.RevocationInfoChoices = entry (codes "revocationinfochoices") revocation_info_choices.format
entry_of Kind.RevokedCertificate = entry (codes "revokedcertificate") (SEQUENCE revoked_certificate).format
entry_of Kind.RevokedCertificates = entry (codes "revokedcertificates") (SEQUENCE revoked_certificates).format
entry_of Kind.SignatureAlgorithmIdentifier = entry (codes "signaturealgorithmidentifier") (SEQUENCE algorithm_identifier).format
entry_of Kind.SignatureValue = entry (codes "signaturevalue") octet_string
entry_of Kind.SignerIdentifier = entry (codes "signeridentifier") signer_identifier.format
entry_of Kind.TbsCertList = entry (codes "tbscertlist") (SEQUENCE tbs_cert_list).format

abbrev pub kinds : List SignedPartKind
kinds = Kind.Attributes ∷ Kind.CertificateChoices ∷ Kind.CertificateList ∷ Kind.CertificateSerialNumber ∷ Kind.CertificateSet ∷ Kind.DigestAlgorithmIdentifier ∷ Kind.DigestAlgorithmIdentifiers ∷ Kind.IssuerAndSerialNumber ∷ Kind.OtherRevocationInfoFormat ∷ Kind.RevocationInfoChoice ∷ Kind.RevocationInfoChoices ∷ Kind.RevokedCertificate ∷ Kind.RevokedCertificates ∷ Kind.SignatureAlgorithmIdentifier ∷ Kind.SignatureValue ∷ Kind.SignerIdentifier ∷ Kind.TbsCertList ∷ []
