use Rattle.asn1_core.specs.Asn1.{SEQUENCE}
use Rattle.std.proofs.Common.{rules}
use Rattle.asn1_choices.proofs.DefinedByReads.{alternative_refused, refused_at}
use Rattle.pkcs7_content.specs.IndirectData.{spc_values, spc_components}
use Rattle.pkcs7_content.specs.PeImageLaws.{spc_pe_image_data}
use Rattle.pkcs7_content.specs.SipInfos.{spc_sip_info}
use Rattle.pkcs7_content.proofs.indirect_data.SpcAttributeAndOptionalValueValueAnyDefinedBy.read_defined_by.Goals as goal

pub returns-in_err-image-in-PeImage : goal.returns-in_err-image-in-PeImage
returns-in_err-image-in-PeImage c =
    let r = refused_at spc_components c.in-PeImage.ensures (alternative_refused spc_values _ spc_pe_image_data.format c.in_err-image-in-PeImage.ensures) in
    search rules

pub returns-in_err-info-in-SipInfo : goal.returns-in_err-info-in-SipInfo
returns-in_err-info-in-SipInfo c =
    let r = refused_at spc_components c.in-SipInfo.ensures (alternative_refused spc_values _ (SEQUENCE spc_sip_info).format c.in_err-info-in-SipInfo.ensures) in
    search rules
