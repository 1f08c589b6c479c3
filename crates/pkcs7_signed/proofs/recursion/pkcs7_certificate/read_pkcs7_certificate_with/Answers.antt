use Rattle.std.proofs.Common.{sym, subst, arith}
use Rattle.std.proofs.lemmas.Result.{err_from_is_err_and}
use Rattle.asn1_core.specs.Der.{lawful_within, HasRead, less}
use Rattle.asn1_core_format.proofs.LevelReads.{has_refused}
use Rattle.pkcs7_signed.specs.Components.{pkcs7_certificate_components}
use Rattle.pkcs7_signed.specs.Signers.{signer, signed_data, pkcs7_certificate}
use Rattle.pkcs7_signed.specs.laws.SignerLaws.{lawful_signed_data}
use Rattle.pkcs7_signed.specs.SignerValues.{pkcs7_certificate_value}
use Rattle.pkcs7_signed.proofs.SignerReads.{pkcs7_certificate_has_read, pkcs7_certificate_refused, no_memory}
use Rattle.pkcs7_signed.proofs.recursion.pkcs7_certificate.read_pkcs7_certificate_with.Goals as goal

pub read_within_with-requires-clause-lawful : goal.read_within_with-requires-clause-lawful
read_within_with-requires-clause-lawful g c = (lawful_within signed_data lawful_signed_data.components 0xA0 (omega arith)).components

pub returns-in_err-components : goal.returns-in_err-components
returns-in_err-components g c = has_refused (λ b. pkcs7_certificate_value b.0.value) pkcs7_certificate c.args.nest (err_from_is_err_and c.from_residual.result c.from_residual.ensures.1) (pkcs7_certificate_refused c.args.nest c.in_err-components.ensures)

pub returns-in_err-pkcs7_certificate : goal.returns-in_err-pkcs7_certificate
returns-in_err-pkcs7_certificate g c =
    has_refused (λ b. pkcs7_certificate_value b.0.value) pkcs7_certificate c.args.nest (err_from_is_err_and c.from_residual-in_err-pkcs7_certificate.result c.from_residual-in_err-pkcs7_certificate.ensures.1)
    (pkcs7_certificate_refused c.args.nest (no_memory (pkcs7_certificate_components (less signer)) c.args.nest c.in_ok-components.ensures c.in_err-pkcs7_certificate.ensures))

pub returns : goal.returns
returns g c =
    pkcs7_certificate_has_read c.args.nest _
    (subst (HasRead (pkcs7_certificate_components (less signer)) c.args.nest c.args.r.now c.read_within_with.new.r) (sym c.in_ok-pkcs7_certificate.ensures) c.in_ok-components.ensures)
