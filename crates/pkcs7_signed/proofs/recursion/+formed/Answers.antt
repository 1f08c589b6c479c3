use Rattle.std.proofs.Common.{◌≡◌, ◌-◌, ◌↔◌, suc, IsTrue, false, true, map, sym, ap, ◌∙◌, subst, arith, rules}
use Rattle.std.proofs.lemmas.Bool.{iff_false}
use Rattle.asn1_core.specs.Der.{octets_of, less, each, IsOid}
use Rattle.asn1_core_format.proofs.ItemTests.{all_tested, one_failed}
use Rattle.pkcs7_signed.specs.Components.{kind_of, attribute_components, pkcs7_certificate_components}
use Rattle.pkcs7_signed.specs.Signers.{signer, attribute, pkcs7_certificate, signer_infos, unsigned_attributes, values}
use Rattle.pkcs7_signed.specs.laws.SignerLevels.{value_ms_counter_sign, value_counter_sign, value_unknown, value_signers, value_attributes, out_pkcs7_certificate, out_attribute}
use Rattle.pkcs7_signed.specs.declared.signers.UnsignedAttribute.{out-UnsignedAttribute}
use Rattle.pkcs7_signed.specs.SignerValues.{signer_value, attribute_value, pkcs7_certificate_value, values_value}
use Rattle.pkcs7_signed.proofs.SignerTests.{never, through, signer_unformed, signer_formed, signed_formed, signed_unformed, of_kind, not_of_kind, none_below, some_below, with_first}
use Rattle.pkcs7_signed.proofs.recursion.+formed.Goals as goal

pub signer_info::SignerInfoDerSerialize::well_formed_at-returns-then-not-well_formed_at : goal.signer_info::SignerInfoDerSerialize::well_formed_at-returns-then-not-well_formed_at
signer_info::SignerInfoDerSerialize::well_formed_at-returns-then-not-well_formed_at m c =
    signer_unformed c.args.limit c.args.self.now c.head.ensures (iff_false c.well_formed_at.ensures c.if-not-well_formed_at.true)

pub signer_info::SignerInfoDerSerialize::well_formed_at-returns : goal.signer_info::SignerInfoDerSerialize::well_formed_at-returns
signer_info::SignerInfoDerSerialize::well_formed_at-returns m c =
    signer_formed c.args.limit c.args.self.now c.head.ensures (c.well_formed_at.ensures.0 c.if-not-well_formed_at.false) c.well_formed_at-2.ensures

pub signed_data::SignersInfosDerSerialize::well_formed_at-returns : goal.signed_data::SignersInfosDerSerialize::well_formed_at-returns
signed_data::SignersInfosDerSerialize::well_formed_at-returns m c =
    subst (λ vs. IsTrue c.signers_formed_at.result ↔ signer_infos.IsWellFormed c.args.limit vs) (sym (value_signers c.args.self.now)) c.signers_formed_at.ensures

pub unsigned_attribute::UnsignedAttributesDerSerialize::well_formed_at-returns-then-not-well_formed_at : goal.unsigned_attribute::UnsignedAttributesDerSerialize::well_formed_at-returns-then-not-well_formed_at
unsigned_attribute::UnsignedAttributesDerSerialize::well_formed_at-returns-then-not-well_formed_at m c =
    let h = one_failed (attribute.IsWellFormed c.args.limit) attribute_value c.deref-item-items.result.now c.loop-item.item-index c.loop-item.invariant c.item-item.result c.loop-item-test.true c.item-item.is (iff_false c.well_formed_at.ensures c.if-not-well_formed_at.true) in
    subst (λ vs. IsTrue false ↔ unsigned_attributes.IsWellFormed c.args.limit vs) (sym (value_attributes c.args.self.now))
    (subst (λ xs. IsTrue false ↔ (each attribute).IsWellFormed c.args.limit (map attribute_value xs)) c.deref-item-items.ensures.value h)

pub unsigned_attribute::UnsignedAttributesDerSerialize::well_formed_at-returns : goal.unsigned_attribute::UnsignedAttributesDerSerialize::well_formed_at-returns
unsigned_attribute::UnsignedAttributesDerSerialize::well_formed_at-returns m c =
    let h = all_tested (attribute.IsWellFormed c.args.limit) attribute_value c.deref-item-items.result.now c.loop-item.item-index c.loop-item.invariant c.loop-item-test.false in
    subst (λ vs. IsTrue true ↔ unsigned_attributes.IsWellFormed c.args.limit vs) (sym (value_attributes c.args.self.now))
    (subst (λ xs. IsTrue true ↔ (each attribute).IsWellFormed c.args.limit (map attribute_value xs)) c.deref-item-items.ensures.value h)

pub unsigned_attribute::UnsignedAttributeDerSerialize::well_formed_at-returns-then-not-fits : goal.unsigned_attribute::UnsignedAttributeDerSerialize::well_formed_at-returns-then-not-fits
unsigned_attribute::UnsignedAttributeDerSerialize::well_formed_at-returns-then-not-fits m c =
    subst (λ v. IsTrue false ↔ (attribute_components pkcs7_certificate (less signer)).IsWellFormed c.args.limit v) (sym (out_attribute c.args.self.now))
    (never (λ w. not_of_kind c.args.limit (kind_of (octets_of (out-UnsignedAttribute c.args.self.now).ty.0)) (values_value (out-UnsignedAttribute c.args.self.now).value) (iff_false c.fits.ensures c.if-not-fits.true) w.1))

pub unsigned_attribute::UnsignedAttributeDerSerialize::well_formed_at-returns : goal.unsigned_attribute::UnsignedAttributeDerSerialize::well_formed_at-returns
unsigned_attribute::UnsignedAttributeDerSerialize::well_formed_at-returns m c =
    let o : IsOid (octets_of (out-UnsignedAttribute c.args.self.now).ty.0) = search rules in
    let f = of_kind c.args.limit (kind_of (octets_of (out-UnsignedAttribute c.args.self.now).ty.0)) (values_value (out-UnsignedAttribute c.args.self.now).value) (c.fits.ensures.0 c.if-not-fits.false) in
    subst (λ v. IsTrue c.well_formed_at.result ↔ (attribute_components pkcs7_certificate (less signer)).IsWellFormed c.args.limit v) (sym (out_attribute c.args.self.now))
    (with_first o (through c.well_formed_at.ensures f))

pub unsigned_attribute::UnsignedAttributeValueDerSerialize::well_formed_at-returns-in-MsCounterSign : goal.unsigned_attribute::UnsignedAttributeValueDerSerialize::well_formed_at-returns-in-MsCounterSign
unsigned_attribute::UnsignedAttributeValueDerSerialize::well_formed_at-returns-in-MsCounterSign m c =
    subst (λ v. IsTrue c.pkcs7_certificates_formed_at.result ↔ values.IsWellFormed c.args.limit v) (sym (ap values_value c.in-MsCounterSign.is ∙ value_ms_counter_sign _)) c.pkcs7_certificates_formed_at.ensures

pub unsigned_attribute::UnsignedAttributeValueDerSerialize::well_formed_at-returns-in-CounterSign : goal.unsigned_attribute::UnsignedAttributeValueDerSerialize::well_formed_at-returns-in-CounterSign
unsigned_attribute::UnsignedAttributeValueDerSerialize::well_formed_at-returns-in-CounterSign m c =
    subst (λ v. IsTrue c.signers_formed_below.result ↔ values.IsWellFormed c.args.limit v) (sym (ap values_value c.in-CounterSign.is ∙ value_counter_sign _)) c.signers_formed_below.ensures

pub unsigned_attribute::UnsignedAttributeValueDerSerialize::well_formed_at-returns-in-Unknown : goal.unsigned_attribute::UnsignedAttributeValueDerSerialize::well_formed_at-returns-in-Unknown
unsigned_attribute::UnsignedAttributeValueDerSerialize::well_formed_at-returns-in-Unknown m c =
    subst (λ v. IsTrue c.components_well_formed_at.result ↔ values.IsWellFormed c.args.limit v) (sym (ap values_value c.in-Unknown.is ∙ value_unknown _)) c.components_well_formed_at.ensures

pub pkcs7_certificate::Pkcs7CertificateDerSerialize::well_formed_at-returns-then-not-is_oid_of : goal.pkcs7_certificate::Pkcs7CertificateDerSerialize::well_formed_at-returns-then-not-is_oid_of
pkcs7_certificate::Pkcs7CertificateDerSerialize::well_formed_at-returns-then-not-is_oid_of m c =
    subst (λ v. IsTrue false ↔ (pkcs7_certificate_components (less signer)).IsWellFormed c.args.limit v) (sym (out_pkcs7_certificate c.args.self.now))
    (never (λ w. iff_false c.is_oid_of.ensures c.if-not-is_oid_of.true w.0))

pub pkcs7_certificate::Pkcs7CertificateDerSerialize::well_formed_at-returns : goal.pkcs7_certificate::Pkcs7CertificateDerSerialize::well_formed_at-returns
pkcs7_certificate::Pkcs7CertificateDerSerialize::well_formed_at-returns m c =
    subst (λ v. IsTrue c.well_formed_at.result ↔ (pkcs7_certificate_components (less signer)).IsWellFormed c.args.limit v) (sym (out_pkcs7_certificate c.args.self.now))
    (with_first (c.is_oid_of.ensures.0 c.if-not-is_oid_of.false) c.well_formed_at.ensures)

pub signed_data::SignedDataDerSerialize::well_formed_at-returns-then-not-well_formed_at : goal.signed_data::SignedDataDerSerialize::well_formed_at-returns-then-not-well_formed_at
signed_data::SignedDataDerSerialize::well_formed_at-returns-then-not-well_formed_at m c =
    signed_unformed c.args.self.now c.head.ensures c.args.limit (iff_false c.well_formed_at.ensures c.if-not-well_formed_at.true)

pub signed_data::SignedDataDerSerialize::well_formed_at-returns : goal.signed_data::SignedDataDerSerialize::well_formed_at-returns
signed_data::SignedDataDerSerialize::well_formed_at-returns m c =
    let n : suc (c.args.limit - 1) ≡ c.args.limit = omega arith in
    signed_formed c.args.self.now c.head.ensures n (c.well_formed_at.ensures.0 c.if-not-well_formed_at.false) c.well_formed_at-2.ensures

pub signed_data::signers_formed_at-returns-then-not-well_formed_at : goal.signed_data::signers_formed_at-returns-then-not-well_formed_at
signed_data::signers_formed_at-returns-then-not-well_formed_at m c =
    let h = one_failed (signer.IsWellFormed c.args.limit) signer_value c.deref-item-items.result.now c.loop-item.item-index c.loop-item.invariant c.item-item.result c.loop-item-test.true c.item-item.is (iff_false c.well_formed_at.ensures c.if-not-well_formed_at.true) in
    subst (λ xs. IsTrue false ↔ (each signer).IsWellFormed c.args.limit (map signer_value xs)) c.deref-item-items.ensures.value h

pub signed_data::signers_formed_at-returns : goal.signed_data::signers_formed_at-returns
signed_data::signers_formed_at-returns m c =
    let h = all_tested (signer.IsWellFormed c.args.limit) signer_value c.deref-item-items.result.now c.loop-item.item-index c.loop-item.invariant c.loop-item-test.false in
    subst (λ xs. IsTrue true ↔ (each signer).IsWellFormed c.args.limit (map signer_value xs)) c.deref-item-items.ensures.value h

pub pkcs7_certificate::pkcs7_certificates_formed_at-returns-then-not-well_formed_at : goal.pkcs7_certificate::pkcs7_certificates_formed_at-returns-then-not-well_formed_at
pkcs7_certificate::pkcs7_certificates_formed_at-returns-then-not-well_formed_at m c =
    let h = one_failed (pkcs7_certificate.IsWellFormed c.args.limit) pkcs7_certificate_value c.deref-item-items.result.now c.loop-item.item-index c.loop-item.invariant c.item-item.result c.loop-item-test.true c.item-item.is (iff_false c.well_formed_at.ensures c.if-not-well_formed_at.true) in
    subst (λ xs. IsTrue false ↔ (each pkcs7_certificate).IsWellFormed c.args.limit (map pkcs7_certificate_value xs)) c.deref-item-items.ensures.value h

pub pkcs7_certificate::pkcs7_certificates_formed_at-returns : goal.pkcs7_certificate::pkcs7_certificates_formed_at-returns
pkcs7_certificate::pkcs7_certificates_formed_at-returns m c =
    let h = all_tested (pkcs7_certificate.IsWellFormed c.args.limit) pkcs7_certificate_value c.deref-item-items.result.now c.loop-item.item-index c.loop-item.invariant c.loop-item-test.false in
    subst (λ xs. IsTrue true ↔ (each pkcs7_certificate).IsWellFormed c.args.limit (map pkcs7_certificate_value xs)) c.deref-item-items.ensures.value h

pub signed_data::signers_formed_below-returns-then-limit-eq0 : goal.signed_data::signers_formed_below-returns-then-limit-eq0
signed_data::signers_formed_below-returns-then-limit-eq0 m c =
    none_below (search rules) c.args.set.now.0.items c.is_none.ensures

pub signed_data::signers_formed_below-returns : goal.signed_data::signers_formed_below-returns
signed_data::signers_formed_below-returns m c =
    let n : suc (c.args.limit - 1) ≡ c.args.limit = omega arith in
    some_below n (map signer_value c.args.set.now.0.items) c.signers_formed_at.ensures
