use Rattle.std.proofs.Common.{◌≡◌, refl, sym, ap, ◌∙◌, subst}
use Rattle.asn1_core.specs.Der.{octets_of, IsOid, oid_from_test}
use Rattle.asn1_core.specs.declared.objects.ObjectIdentifierAsn1.{ObjectIdentifierAsn1}
use Rattle.pkcs7_signed.specs.Oids.{signed_data_oid}
use Rattle.pkcs7_signed.specs.Signers.{pkcs7_certificate_out}
use Rattle.pkcs7_signed.specs.SignerValues.{pkcs7_certificate_value, signed_value}
use Rattle.pkcs7_signed.proofs.SignerReads.{made_pkcs7_certificate}
use Rattle.pkcs7_signed.proofs.recursion.pkcs7_certificate.pkcs7_certificate_of.Goals as goal

pub from_checked-oid-requires : goal.from_checked-oid-requires
from_checked-oid-requires c = subst IsOid (sym (c.in_ok-octets.ensures.items ∙ c.octets.ensures)) (oid_from_test signed_data_oid refl)

pub returns : goal.returns
returns c =
    let oid : ObjectIdentifierAsn1 = record { 0 = c.from_checked-oid.result } in
    let octets : octets_of oid.0 ≡ signed_data_oid = c.from_checked-oid.ensures ∙ c.in_ok-octets.ensures.items ∙ c.octets.ensures in
    let made = made_pkcs7_certificate oid c.open.result ∙ ap (λ o. (o, signed_value c.open.result)) octets ∙ ap (λ s. (signed_data_oid, signed_value s)) c.open.ensures in
    ap (λ x. pkcs7_certificate_out (pkcs7_certificate_value x)) c.in_ok-pkcs7_certificate.ensures ∙ made
