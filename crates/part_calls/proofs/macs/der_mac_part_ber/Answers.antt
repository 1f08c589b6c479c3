use Rattle.part_calls.proofs.BerMacs.{not_copied}
use Rattle.part_calls.proofs.macs.der_mac_part_ber.Goals as goal

pub returns-in-Err : goal.returns-in-Err
returns-in-Err c = not_copied c.in-Some.part c.args.input.now c.args.number c.in-Some.ensures c.args.out.now c.in-Err.error c.status_of.result c.status_of.ensures c.in-Err.ensures
