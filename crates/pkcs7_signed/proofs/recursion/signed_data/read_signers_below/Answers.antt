use Rattle.std.proofs.Common.{map, sym, subst}
use Rattle.std.proofs.lemmas.Result.{err_from_is_err_and}
use Rattle.asn1_core.specs.Der.{less, set_of, HasReadComponents}
use Rattle.asn1_core_format.proofs.LevelReads.{has_refused_components}
use Rattle.pkcs7_signed.proofs.SignerReads.{no_memory_components}
use Rattle.pkcs7_signed.specs.Signers.{signer}
use Rattle.pkcs7_signed.specs.laws.SignerLaws.{lawful_signer}
use Rattle.pkcs7_signed.specs.SignerValues.{signer_value}
use Rattle.pkcs7_signed.proofs.recursion.signed_data.read_signers_below.Goals as goal

pub read_set_below_with-requires-clause-lawful : goal.read_set_below_with-requires-clause-lawful
read_set_below_with-requires-clause-lawful g c = lawful_signer

pub returns-in_err-signers : goal.returns-in_err-signers
returns-in_err-signers g c =
    has_refused_components (λ v. map signer_value v.items) (set_of (less signer)) c.args.nest (err_from_is_err_and c.from_residual-in_err-signers.result c.from_residual-in_err-signers.ensures.1)
    (no_memory_components (set_of (less signer)) c.args.nest c.in_ok-boxes.ensures c.in_err-signers.ensures)

pub returns : goal.returns
returns g c = subst (HasReadComponents (set_of (less signer)) c.args.nest c.args.r.now c.read_set_below_with.new.r) (sym c.in_ok-signers.ensures) c.in_ok-boxes.ensures
