use Rattle.std.proofs.Common.{sym, ap, ◌∙◌, subst}
use Rattle.std.proofs.lemmas.Bool.{iff_false}
use Rattle.asn1_core.specs.Der.{less}
use Rattle.pkcs7_signed.specs.Components.{attribute_components, pkcs7_certificate_components}
use Rattle.pkcs7_signed.specs.Signers.{signer, pkcs7_certificate, signer_infos, unsigned_attributes, values}
use Rattle.pkcs7_signed.specs.laws.SignerLevels.{value_ms_counter_sign, value_counter_sign, value_unknown, value_signers, value_attributes, text_signed, out_pkcs7_certificate, out_attribute, short_text, long_text, none_in, some_in}
use Rattle.pkcs7_signed.specs.SignerValues.{values_value}
use Rattle.pkcs7_signed.proofs.recursion.+put.Goals as goal

pub signer_info::SignerInfoDerSerialize::put-returns-then-is_none : goal.signer_info::SignerInfoDerSerialize::put-returns-then-is_none
signer_info::SignerInfoDerSerialize::put-returns-then-is_none g m c =
    subst (λ t. g.W.Writer.Takes t c.args.w.now c.put_within.new.w c.put_within.result) (short_text c.args.self.now c.head.ensures (none_in c.args.self.now (c.is_none.ensures.0 c.if-is_none.true))) c.put_within.ensures.text

pub signer_info::SignerInfoDerSerialize::put-returns : goal.signer_info::SignerInfoDerSerialize::put-returns
signer_info::SignerInfoDerSerialize::put-returns g m c =
    subst (λ t. g.W.Writer.Takes t c.args.w.now c.put_two.new.w c.put_two.result) (long_text c.args.self.now c.head-2.ensures (some_in c.args.self.now (iff_false c.is_none.ensures c.if-is_none.false))) c.put_two.ensures

pub signed_data::SignersInfosDerSerialize::put-returns : goal.signed_data::SignersInfosDerSerialize::put-returns
signed_data::SignersInfosDerSerialize::put-returns g m c =
    subst (λ vs. g.W.Writer.Takes (signer_infos.text vs) c.args.w.now c.put.new.w c.put.result) (sym (value_signers c.args.self.now)) c.put.ensures

pub unsigned_attribute::UnsignedAttributesDerSerialize::put-returns : goal.unsigned_attribute::UnsignedAttributesDerSerialize::put-returns
unsigned_attribute::UnsignedAttributesDerSerialize::put-returns g m c =
    subst (λ vs. g.W.Writer.Takes (unsigned_attributes.text vs) c.args.w.now c.put_within.new.w c.put_within.result) (sym (value_attributes c.args.self.now)) c.put_within.ensures.text

pub unsigned_attribute::UnsignedAttributeDerSerialize::put-returns : goal.unsigned_attribute::UnsignedAttributeDerSerialize::put-returns
unsigned_attribute::UnsignedAttributeDerSerialize::put-returns g m c =
    subst (λ v. g.W.Writer.Takes ((attribute_components pkcs7_certificate (less signer)).text v) c.args.w.now c.put_two.new.w c.put_two.result) (sym (out_attribute c.args.self.now)) c.put_two.ensures

pub unsigned_attribute::UnsignedAttributeValueDerSerialize::put-returns-in-MsCounterSign : goal.unsigned_attribute::UnsignedAttributeValueDerSerialize::put-returns-in-MsCounterSign
unsigned_attribute::UnsignedAttributeValueDerSerialize::put-returns-in-MsCounterSign g m c =
    subst (λ v. g.W.Writer.Takes (values.text v) c.args.w.now c.put.new.w c.put.result) (sym (ap values_value c.in-MsCounterSign.is ∙ value_ms_counter_sign _)) c.put.ensures

pub unsigned_attribute::UnsignedAttributeValueDerSerialize::put-returns-in-CounterSign : goal.unsigned_attribute::UnsignedAttributeValueDerSerialize::put-returns-in-CounterSign
unsigned_attribute::UnsignedAttributeValueDerSerialize::put-returns-in-CounterSign g m c =
    subst (λ v. g.W.Writer.Takes (values.text v) c.args.w.now c.put-in-CounterSign.new.w c.put-in-CounterSign.result) (sym (ap values_value c.in-CounterSign.is ∙ value_counter_sign _)) c.put-in-CounterSign.ensures

pub unsigned_attribute::UnsignedAttributeValueDerSerialize::put-returns-in-Unknown : goal.unsigned_attribute::UnsignedAttributeValueDerSerialize::put-returns-in-Unknown
unsigned_attribute::UnsignedAttributeValueDerSerialize::put-returns-in-Unknown g m c =
    subst (λ v. g.W.Writer.Takes (values.text v) c.args.w.now c.put-in-Unknown.new.w c.put-in-Unknown.result) (sym (ap values_value c.in-Unknown.is ∙ value_unknown _)) c.put-in-Unknown.ensures

pub pkcs7_certificate::Pkcs7CertificateDerSerialize::put-returns : goal.pkcs7_certificate::Pkcs7CertificateDerSerialize::put-returns
pkcs7_certificate::Pkcs7CertificateDerSerialize::put-returns g m c =
    subst (λ v. g.W.Writer.Takes ((pkcs7_certificate_components (less signer)).text v) c.args.w.now c.put_two.new.w c.put_two.result) (sym (out_pkcs7_certificate c.args.self.now)) c.put_two.ensures

pub signed_data::SignedDataDerSerialize::put-returns : goal.signed_data::SignedDataDerSerialize::put-returns
signed_data::SignedDataDerSerialize::put-returns g m c =
    subst (λ t. g.W.Writer.Takes t c.args.w.now c.put_two.new.w c.put_two.result) (text_signed c.args.self.now c.head.ensures) c.put_two.ensures
