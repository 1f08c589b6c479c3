use Rattle.std.proofs.lemmas.Result.{err_from_is_err_and}
use Rattle.asn1_core_format.proofs.LevelReads.{has_refused}
use Rattle.pkcs7_signed.specs.Signers.{signer}
use Rattle.pkcs7_signed.specs.SignerValues.{signer_value}
use Rattle.pkcs7_signed.proofs.SignerReads.{no_memory}
use Rattle.pkcs7_signed.proofs.recursion.signer_info.+read.Goals as goal

pub read_boxed-returns-in_err-kept : goal.read_boxed-returns-in_err-kept
read_boxed-returns-in_err-kept m c =
    has_refused (λ b. signer_value b.0.value) signer c.args.nest (err_from_is_err_and c.from_residual-in_err-kept.result c.from_residual-in_err-kept.ensures.1)
    (no_memory signer c.args.nest c.in_ok-value.ensures c.in_err-kept.ensures)
