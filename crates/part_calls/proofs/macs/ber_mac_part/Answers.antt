use Rattle.std.proofs.lemmas.Result.{err_from_is_err_and}
use Rattle.part_calls.proofs.BerMacs.{given, refused}
use Rattle.part_calls.proofs.macs.ber_mac_part.Goals as goal

pub returns-in_err-file : goal.returns-in_err-file
returns-in_err-file c =
    let r = refused c.args.part c.args.input.now _ c.in_err-file.ensures in
    let q = err_from_is_err_and c.from_residual.result c.from_residual.ensures.1 in
    rw (q.1, q.2) r

pub returns : goal.returns
returns c = given c.args.part c.args.input.now _ c.in_ok-file.ensures c.part_of_mac.result c.part_of_mac.ensures
