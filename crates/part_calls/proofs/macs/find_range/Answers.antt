use Rattle.part_calls.proofs.MacRanges.{found, not_found}
use Rattle.part_calls.proofs.macs.find_range.Goals as goal

pub returns-in-Ok-Some : goal.returns-in-Ok-Some
returns-in-Ok-Some g c = found _ _ _ _ (rw c.in-Ok-Some.field-0-is at c.in-Ok-Some.ensures)

pub returns-in-Err : goal.returns-in-Err
returns-in-Err g c = not_found _ _ _ _ c.status_of.ensures c.in-Err.ensures
