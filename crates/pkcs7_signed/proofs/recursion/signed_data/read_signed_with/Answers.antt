use Rattle.std.proofs.Common.{◌≡◌, ◌-◌, suc, sym, subst, arith}
use Rattle.std.proofs.lemmas.Result.{err_from_is_err_and}
use Rattle.asn1_core.specs.Der.{sequence, set_of, lawful_set, HasRead, less, lawful_less}
use Rattle.asn1_core_format.proofs.LevelReads.{has_refused}
use Rattle.asn1_core_format.proofs.NeedsLevelReads.{has_read_needs_level, refused_needs_level}
use Rattle.pkcs7_signed.specs.Parts.{signed_parts}
use Rattle.pkcs7_signed.specs.Signers.{signer, signed_data}
use Rattle.pkcs7_signed.specs.laws.SignerLaws.{lawful_signer}
use Rattle.pkcs7_signed.specs.SignerValues.{signed_value}
use Rattle.pkcs7_signed.proofs.SignerReads.{no_memory}
use Rattle.pkcs7_signed.proofs.recursion.signed_data.read_signed_with.Goals as goal

pub read_within_with-requires-clause-lawful : goal.read_within_with-requires-clause-lawful
read_within_with-requires-clause-lawful g c = (lawful_set (less signer) (lawful_less signer lawful_signer)).components

pub returns-in_err-components : goal.returns-in_err-components
returns-in_err-components g c =
    let n : suc (c.args.nest - 1) ≡ c.args.nest = omega arith in
    has_refused (λ x. signed_value x.0.value) signed_data c.args.nest (err_from_is_err_and c.from_residual.result c.from_residual.ensures.1) (refused_needs_level (sequence (signed_parts (set_of (less signer)))) n c.in_err-components.ensures)

pub returns-in_err-signed : goal.returns-in_err-signed
returns-in_err-signed g c =
    let n : suc (c.args.nest - 1) ≡ c.args.nest = omega arith in
    has_refused (λ x. signed_value x.0.value) signed_data c.args.nest (err_from_is_err_and c.from_residual-in_err-signed.result c.from_residual-in_err-signed.ensures.1)
    (no_memory signed_data c.args.nest (has_read_needs_level (sequence (signed_parts (set_of (less signer)))) n c.in_ok-components.ensures) c.in_err-signed.ensures)

pub returns : goal.returns
returns g c =
    let n : suc (c.args.nest - 1) ≡ c.args.nest = omega arith in
    let t = has_read_needs_level (sequence (signed_parts (set_of (less signer)))) n c.in_ok-components.ensures in
    subst (HasRead signed_data c.args.nest c.args.r.now c.read_within_with.new.r) (sym c.in_ok-signed.ensures) t
