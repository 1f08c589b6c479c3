use Rattle.std.proofs.Common.{sym, subst, arith}
use Rattle.std.proofs.lemmas.Result.{err_from_is_err_and}
use Rattle.asn1_core_format.proofs.LevelReads.{has_refused}
use Rattle.asn1_core.specs.Der.{HasRead, lawful_set_or_none}
use Rattle.pkcs7_content.specs.declared.versions.CmsVersion.TheVariants.{V1}
use Rattle.pkcs7_signed.specs.Components.{signer_components}
use Rattle.pkcs7_signed.specs.Signers.{signer, attribute}
use Rattle.pkcs7_signed.specs.laws.SignerLaws.{lawful_attribute}
use Rattle.pkcs7_signed.specs.SignerValues.{signer_value}
use Rattle.pkcs7_signed.proofs.SignerReads.{signer_has_read, signer_refused, made_signer}
use Rattle.pkcs7_signed.proofs.recursion.signer_info.read_signer_with.Goals as goal

pub read_within_with-requires-clause-lawful : goal.read_within_with-requires-clause-lawful
read_within_with-requires-clause-lawful g c = lawful_set_or_none 0xA1 (omega arith) attribute lawful_attribute

pub returns-in_err-components : goal.returns-in_err-components
returns-in_err-components g c = has_refused signer_value signer c.args.nest (err_from_is_err_and c.from_residual.result c.from_residual.ensures.1) (signer_refused c.args.nest c.in_err-components.ensures)

pub returns : goal.returns
returns g c =
    signer_has_read c.args.nest _
    (subst (HasRead (signer_components attribute) c.args.nest c.args.r.now c.read_within_with.new.r)
    (sym (made_signer V1 c.in_ok-components.components.1.0 c.in_ok-components.components.1.1.0 c.in_ok-components.components.1.1.1.0 c.in_ok-components.components.1.1.1.1.0 c.in_ok-components.components.1.1.1.1.1.0 c.in_ok-components.components.1.1.1.1.1.1.0.0)) c.in_ok-components.ensures)
