use Rattle.std.proofs.lemmas.Result.{err_from_is_err_and}
use Rattle.x509_text.proofs.Encoded.{none_read, name_read}
use Rattle.x509_text.proofs.encodings.encoded_name_text.Goals as goal

pub returns-in_err-name : goal.returns-in_err-name
returns-in_err-name c =
    let p = err_from_is_err_and c.from_residual.result c.from_residual.ensures.1 in
    rw (p.1, p.2) (none_read c.in_err-name.ensures)

pub returns : goal.returns
returns c = name_read c.args.encoding.now _ c.name_text.result c.in_ok-name.ensures c.name_text.ensures
