-- DigestInfo ::= SEQUENCE { digestAlgorithm AlgorithmIdentifier, digest OCTET STRING } (RFC 2315, 9.4)
-- SubjectKeyIdentifier ::= OCTET STRING (RFC 5280, 4.2.1.2)
use Rattle.std.proofs.Common.{refl}
use Rattle.asn1_core.specs.Asn1.{Asn1, Contents, contents, ◌then◌, end, OCTET_STRING, SEQUENCE}
use Rattle.x509_base.specs.Algorithms.{algorithm_identifier}
use Rattle.x509_base.specs.AlgorithmParts.{algorithm_identifier_value}
use Rattle.x509_base.specs.declared.digests.DigestInfo.{DigestInfo}
use Rattle.x509_base.specs.declared.digests.SubjectKeyIdentifier.{SubjectKeyIdentifier}

abbrev pub digest_info : Contents
digest_info = contents (SEQUENCE algorithm_identifier then OCTET_STRING then end) refl

abbrev pub digest_info_value : DigestInfo → digest_info.Value
digest_info_value x = (algorithm_identifier_value x.oid, (x.digest.0.items, tt))

abbrev pub subject_key_identifier : Asn1
subject_key_identifier = OCTET_STRING

abbrev pub subject_key_identifier_value : SubjectKeyIdentifier → subject_key_identifier.Value
subject_key_identifier_value x = x.0.0.items
