use Rattle.std.proofs.Common.{arith}
use Rattle.std.proofs.lemmas.Result.{err_from_is_err_and}
use Rattle.x509_text.proofs.Attributes.{long_at}
use Rattle.x509_text.proofs.names.write_backwards.Goals as goal

pub returns-in_err-write : goal.returns-in_err-write
returns-in_err-write g c =
    let p = err_from_is_err_and c.from_residual-in_err-write.result c.from_residual-in_err-write.ensures.1 in
    rw (p.1, p.2) (long_at g.T.InText.IsLong c.args.items.now _ c.index-items-left.result (omega (arith, c.loop-left.invariant.fits, c.loop-left-test.true), c.index-items-left.is) c.in_err-write.ensures)
