use Rattle.std.specs.Prelude.{map}
use Rattle.std.specs.List.{AllZip}
use Rattle.std.proofs.Common.{rules, subst, sym}
use Rattle.std.proofs.lemmas.Result.{err_from_is_err_and}
use Rattle.cms_calls.proofs.BuiltSigned.{no_certificates, no_crls, no_info, no_signers, not_built}
use Rattle.cms_calls.specs.BuiltSigned.{IsSignerBy, rows_of}
use Rattle.call_values.specs.Given.{IsPartOf}
use Rattle.signed_writers.specs.Signed.{given_parts}
use Rattle.x509_pkcs7.specs.RawSigners.{raw_signer_info_value}
use Rattle.cms_calls.proofs.built_signed.signed_text.Goals as goal

pub returns-in_err-certificates : goal.returns-in_err-certificates
returns-in_err-certificates c =
    let rows = rows_of c.args.given.now c.args.certificates.now c.args.crls.now c.args.signers.now in
    let none = no_certificates c.args.input.now rows c.in_err-certificates.field-0.0 c.in_err-certificates.ensures in
    search rules

pub returns-in_err-crls : goal.returns-in_err-crls
returns-in_err-crls c =
    let rows = rows_of c.args.given.now c.args.certificates.now c.args.crls.now c.args.signers.now in
    let none = no_crls c.args.input.now rows c.in_err-crls.field-0.0 c.in_err-crls.ensures in
    let q = err_from_is_err_and c.from_residual-in_err-crls.result c.from_residual-in_err-crls.ensures.1 in
    rw (q.1, q.2) none

pub returns-in_err-signers : goal.returns-in_err-signers
returns-in_err-signers c =
    let rows = rows_of c.args.given.now c.args.certificates.now c.args.crls.now c.args.signers.now in
    let none = no_signers c.args.input.now rows c.in_err-signers.field-0.0 c.in_err-signers.ensures in
    let q = err_from_is_err_and c.from_residual-in_err-signers.result c.from_residual-in_err-signers.ensures.1 in
    rw (q.1, q.2) none

pub returns : goal.returns
returns c = no_info c.args.input.now (rows_of c.args.given.now c.args.certificates.now c.args.crls.now c.args.signers.now) c.in-Err.part c.in-Err.ensures

pub returns-in-Ok : goal.returns-in-Ok
returns-in-Ok c =
    let b = c.args.input.now in
    let rows = rows_of c.args.given.now c.args.certificates.now c.args.crls.now c.args.signers.now in
    let certificates = subst (λ all. AllZip (IsPartOf b) c.args.certificates.now (map (λ x. x.0.now) all)) (sym c.as_slice.ensures.value) c.in_ok-certificates.ensures in
    let crls = subst (λ all. AllZip (IsPartOf b) c.args.crls.now (map (λ x. x.0.now) all)) (sym c.as_slice-in-Ok.ensures.value) c.in_ok-crls.ensures in
    let signers = subst (λ all. AllZip (IsSignerBy b) c.args.signers.now (map raw_signer_info_value all)) (sym c.as_slice-in-Ok-2.ensures.value) c.in_ok-signers.ensures in
    let given = given_parts c.in-Ok.info c.as_slice.result.now c.as_slice-in-Ok.result.now c.as_slice-in-Ok-2.result.now in
    not_built b rows given (record { info = c.in-Ok.ensures; certificates = certificates; crls = crls; signers = signers })
    c.in-Err-write_signed_data.wrong c.in-Err-write_signed_data.ensures c.not_signed.result c.not_signed.ensures
