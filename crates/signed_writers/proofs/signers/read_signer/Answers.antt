use Rattle.std.proofs.Common.{rules}
use Rattle.std.proofs.lemmas.Result.{err_from_is_err_and}
use Rattle.signed_writers.proofs.ReadParts.{without_identifier, without_digest, without_signature, without_signed, without_unsigned}
use Rattle.signed_writers.proofs.signers.read_signer.Goals as goal

pub returns-in_err-sid : goal.returns-in_err-sid
returns-in_err-sid c = let r = without_identifier c.args.given.now c.in_err-sid.field-0.0 c.in_err-sid.ensures in search rules

pub returns-in_err-digest_algorithm : goal.returns-in_err-digest_algorithm
returns-in_err-digest_algorithm c = let r = without_digest c.args.given.now c.in_err-digest_algorithm.field-0.0 c.in_err-digest_algorithm.ensures in search rules

pub returns-in_err-signed : goal.returns-in_err-signed
returns-in_err-signed c =
    let r = without_signed c.args.given.now c.in_err-signed.field-0.0 c.in_err-signed.ensures in
    let q = err_from_is_err_and c.from_residual-in_err-signed.result c.from_residual-in_err-signed.ensures.1 in
    rw (q.1, q.2) r

pub returns-in_err-signature_algorithm : goal.returns-in_err-signature_algorithm
returns-in_err-signature_algorithm c =
    let r = without_signature c.args.given.now c.in_err-signature_algorithm.field-0.0 c.in_err-signature_algorithm.ensures in
    let q = err_from_is_err_and c.from_residual-in_err-signature_algorithm.result c.from_residual-in_err-signature_algorithm.ensures.1 in
    rw (q.1, q.2) r

pub returns-in_err-unsigned : goal.returns-in_err-unsigned
returns-in_err-unsigned c =
    let r = without_unsigned c.args.given.now c.in_err-unsigned.field-0.0 c.in_err-unsigned.ensures in
    let q = err_from_is_err_and c.from_residual-in_err-unsigned.result c.from_residual-in_err-unsigned.ensures.1 in
    rw (q.1, q.2) r
