use Rattle.part_calls.proofs.MacRanges.{mac_not_found}
use Rattle.part_calls.proofs.macs.find_mac.Goals as goal

pub returns-in-Err : goal.returns-in-Err
returns-in-Err g c = mac_not_found _ c.args.input.now c.in-Err.refusal c.status_of_refusal.result c.status_of_refusal.ensures c.in-Err.ensures
