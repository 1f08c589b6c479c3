use Rattle.std.proofs.Common.{◌≡◌, ◌++◌, drop, map, take}
use Rattle.call_values.proofs.outputs.write_rows.Given as goal

abbrev pub invariant-loop-index : goal.invariant-loop-index
invariant-loop-index g l = l.out ≡ map g.R.Row.row_of (take l.index l.found) ++ drop l.index l.fn.out
