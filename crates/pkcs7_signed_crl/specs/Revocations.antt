-- OtherRevocationInfoFormat ::= SEQUENCE { otherRevInfoFormat OBJECT IDENTIFIER, otherRevInfo ANY DEFINED BY
--   otherRevInfoFormat } (RFC 5652, 10.2.1), with NULL as otherRevInfo
-- RevocationInfoChoice ::= CHOICE { crl CertificateList, other [1] IMPLICIT OtherRevocationInfoFormat }
-- RevocationInfoChoices ::= SET OF RevocationInfoChoice, under its tag [1] IMPLICIT (RFC 5652, 5.1)
use Rattle.std.specs.Prelude.{map}
use Rattle.std.proofs.Common.{inl, inr, arith, refl}
use Rattle.asn1_core.specs.Asn1.{Asn1, asn1_tagged, Contents, contents, ◌then◌, end, CHOICE, IMPLICIT, OBJECT_IDENTIFIER, NULL, SEQUENCE}
use Rattle.asn1_core.specs.Der.{each, octets_of, within_tagged, lawful_implicit_set}
use Rattle.pkcs7_signed_crl.specs.CertificateLists.{certificate_list, certificate_list_value}
use Rattle.pkcs7_signed_crl.specs.declared.revocations.OtherRevocationInfoFormat.{OtherRevocationInfoFormat}
use Rattle.pkcs7_signed_crl.specs.declared.revocations.RevocationInfoChoice.{RevocationInfoChoice}
use Rattle.pkcs7_signed_crl.specs.declared.revocations.RevocationInfoChoice.TheVariants.{Crl, Other}
use Rattle.pkcs7_signed_crl.specs.declared.revocations.RevocationInfoChoices.{RevocationInfoChoices}

abbrev pub other_revocation_info_format : Contents
other_revocation_info_format = contents (OBJECT_IDENTIFIER then NULL then end) refl

abbrev pub other_revocation_info_format_value : OtherRevocationInfoFormat → other_revocation_info_format.Value
other_revocation_info_format_value x = (octets_of x.other_rev_info_format.0, (tt, tt))

abbrev pub revocation_info_choice : Asn1
revocation_info_choice = CHOICE (SEQUENCE certificate_list) (IMPLICIT 1 (SEQUENCE other_revocation_info_format)) refl

abbrev pub revocation_info_choice_value : RevocationInfoChoice → revocation_info_choice.Value
revocation_info_choice_value (Crl c) = inl (certificate_list_value c)
revocation_info_choice_value (Other o) = inr (other_revocation_info_format_value o.0)

abbrev pub revocation_info_choices : Asn1
revocation_info_choices = asn1_tagged (lawful_implicit_set (omega arith) revocation_info_choice.law) 0xA1 (within_tagged 0xA1 (omega arith) (each revocation_info_choice.format))

abbrev pub revocation_info_choices_value : RevocationInfoChoices → revocation_info_choices.Value
revocation_info_choices_value x = map revocation_info_choice_value x.0.items
