use Rattle.std.proofs.Common.{map, sym, subst}
use Rattle.std.proofs.lemmas.Result.{err_from_is_err_and}
use Rattle.asn1_core.specs.Der.{set_of, HasReadComponents}
use Rattle.asn1_core_format.proofs.LevelReads.{has_refused_components}
use Rattle.pkcs7_signed.proofs.SignerReads.{no_memory_components}
use Rattle.pkcs7_signed.specs.Signers.{pkcs7_certificate}
use Rattle.pkcs7_signed.specs.laws.SignerLaws.{lawful_pkcs7_certificate}
use Rattle.pkcs7_signed.specs.SignerValues.{pkcs7_certificate_value}
use Rattle.pkcs7_signed.proofs.recursion.pkcs7_certificate.read_pkcs7_certificates_with.Goals as goal

pub read_set_with-requires-clause-lawful : goal.read_set_with-requires-clause-lawful
read_set_with-requires-clause-lawful g c = lawful_pkcs7_certificate

pub returns-in_err-certificates : goal.returns-in_err-certificates
returns-in_err-certificates g c =
    has_refused_components (λ v. map pkcs7_certificate_value v.items) (set_of pkcs7_certificate) c.args.nest (err_from_is_err_and c.from_residual-in_err-certificates.result c.from_residual-in_err-certificates.ensures.1)
    (no_memory_components (set_of pkcs7_certificate) c.args.nest c.in_ok-boxes.ensures c.in_err-certificates.ensures)

pub returns : goal.returns
returns g c = subst (HasReadComponents (set_of pkcs7_certificate) c.args.nest c.args.r.now c.read_set_with.new.r) (sym c.in_ok-certificates.ensures) c.in_ok-boxes.ensures
