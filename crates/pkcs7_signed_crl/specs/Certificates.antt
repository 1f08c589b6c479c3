-- CertificateChoices ::= CHOICE { certificate Certificate, extendedCertificate [0] .., v1AttrCert [1] ..,
--   v2AttrCert [2] .., other [3] .. } (RFC 5652, 10.2.2), each as it is: only a certificate has the tag of a SEQUENCE
-- CertificateSet ::= SET OF CertificateChoices, under its tag [0] IMPLICIT (RFC 5652, 5.1 and 10.2.3)
use Rattle.std.specs.Prelude.{◌≡◌, ℕ, List, [], map}
use Rattle.std.proofs.Common.{inl, inr, arith}
use Rattle.asn1_choices.specs.laws.KnownOrRaw.{lawful_known_or_raw}
use Rattle.asn1_core.specs.Asn1.{Asn1, asn1, asn1_tagged}
use Rattle.asn1_core.specs.Der.{one_tag, each, element_of, lawful_element_of, element, lawful_implicit_set, within_tagged}
use Rattle.pkcs7_signed_crl.specs.declared.certificates.CertificateChoices.{CertificateChoices}
use Rattle.pkcs7_signed_crl.specs.declared.certificates.CertificateChoices.TheVariants.{Certificate, Other}
use Rattle.pkcs7_signed_crl.specs.declared.certificates.CertificateSet.{CertificateSet}

abbrev pub IsSequenceTag : ℕ → Type 0
IsSequenceTag t = t ≡ 0x30

-- a certificate, or another choice
abbrev pub certificate_choices : Asn1
certificate_choices = asn1 (lawful_known_or_raw (element_of (one_tag 0x30)) (lawful_element_of (one_tag 0x30)))

abbrev pub certificate_choices_value : CertificateChoices → certificate_choices.Value
certificate_choices_value (Certificate c) = inl c.0.items
certificate_choices_value (Other c) = inr c.0.items

abbrev pub certificate_set : Asn1
certificate_set = asn1_tagged (lawful_implicit_set (omega arith) certificate_choices.law) 0xA0 (within_tagged 0xA0 (omega arith) (each certificate_choices.format))

abbrev pub certificate_set_value : CertificateSet → certificate_set.Value
certificate_set_value x = map certificate_choices_value x.0.items

-- the empty set, which is left out
abbrev pub no_certificates : List ℕ
no_certificates = element 0xA0 []
