use Rattle.std.proofs.Common.{rules}
use Rattle.std.proofs.lemmas.Result.{err_from_is_err_and}
use Rattle.asn1_core_format.specs.Tagged.{inside}
use Rattle.asn1_core_format.proofs.LevelReads.{has_refused_components}
use Rattle.pkcs7_content.specs.PeImages.{pe_image_spelled, flags_written, spc_pe_image_data_value}
use Rattle.pkcs7_content.specs.PeImageLaws.{flags_loosening, spc_pe_image_data}
use Rattle.pkcs7_content.proofs.LooseContents.{lacked, loosened_have_read, loosened_refused}
use Rattle.pkcs7_content.proofs.pe_images.SpcPeImageDataTaggedType.read_open_contents.Goals as goal

pub returns-in_err-components : goal.returns-in_err-components
returns-in_err-components c =
    has_refused_components spc_pe_image_data_value (inside 0x30 spc_pe_image_data.format) c.args.nest (err_from_is_err_and c.from_residual.result c.from_residual.ensures.1)
    (loosened_refused pe_image_spelled flags_written c.args.nest 0x30 c.in_err-components.ensures)

pub returns-in-Some : goal.returns-in-Some
returns-in-Some c = loosened_have_read pe_image_spelled flags_written c.args.nest 0x30 flags_loosening (rw c.in-Some.is at c.in_ok-components.ensures)

pub returns-in_err-flags-in-None : goal.returns-in_err-flags-in-None
returns-in_err-flags-in-None c =
    let r = lacked (inside 0x30 pe_image_spelled) (inside 0x30 spc_pe_image_data.format) c.in_ok-components.ensures c.in_err-flags-in-None.ensures in
    search rules

pub returns-in_ok-flags-in-None : goal.returns-in_ok-flags-in-None
returns-in_ok-flags-in-None c =
    let t = loosened_have_read pe_image_spelled flags_written c.args.nest 0x30 flags_loosening (rw c.in-None.is at c.in_ok-components.ensures) in
    rw c.in_ok-flags-in-None.ensures t
