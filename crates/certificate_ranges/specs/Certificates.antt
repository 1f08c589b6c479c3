-- Certificates as they are read (RFC 5280, 4.1): as `CertificateHead`, which keeps validity, the key's element and each element
-- after it as they are.
use Rattle.std.proofs.Common.{refl}
use Rattle.asn1_core.specs.Asn1.{Contents, contents, ◌then◌, end, SEQUENCE}
use Rattle.asn1_core.specs.Der.{Format, ElementOctets}
use Rattle.asn1_core.specs.declared.raw.Asn1RawDer.{Asn1RawDer}
use Rattle.asn1_leaves.specs.Asn1.{BIT_STRING}
use Rattle.pkcs7_verifier.specs.Heads.{certificate_head}
use Rattle.x509_base.specs.Algorithms.{algorithm_identifier}

abbrev pub CertificateValue : Type 0
CertificateValue = certificate_head.Value

abbrev pub certificate : Format CertificateValue
certificate = (SEQUENCE certificate_head).format

-- the element of the key
abbrev pub key_element_of : CertificateValue → ElementOctets
key_element_of v = v.0.1.1.1.1.1.1.0

-- SubjectPublicKeyInfo ::= SEQUENCE { algorithm AlgorithmIdentifier, subjectPublicKey BIT STRING } (RFC 5280, 4.1.2.7)
abbrev pub subject_public_key_info : Contents
subject_public_key_info = contents (SEQUENCE algorithm_identifier then BIT_STRING then end) refl

abbrev pub KeyValue : Type 0
KeyValue = subject_public_key_info.Value

abbrev pub key_format : Format KeyValue
key_format = (SEQUENCE subject_public_key_info).format

-- the octets of an element
abbrev pub octets_in : Asn1RawDer → ElementOctets
octets_in e = e.0.items
