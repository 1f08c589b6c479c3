use Rattle.std.proofs.lemmas.Result.{err_from_is_err_and}
use Rattle.x509_text.proofs.Attributes.{name_written, name_refused}
use Rattle.x509_text.proofs.names.name_text.Goals as goal

pub returns-in_err-write : goal.returns-in_err-write
returns-in_err-write c =
    let p = err_from_is_err_and c.from_residual.result c.from_residual.ensures.1 in
    rw (p.1, p.2) (name_refused c.args.name.now c.in_err-write.ensures)

pub returns : goal.returns
returns c = name_written c.new-text.result c.write.new.text c.args.name.now c.new-text.ensures.bytes c.in_ok-write.ensures
