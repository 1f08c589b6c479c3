use Rattle.std.proofs.Common.{◌≡◌, drop, slice_get}
use Rattle.container_parts.specs.StoreParts.{ranges_in}
use Rattle.container_parts.proofs.stores.range_at.Given as goal

abbrev pub invariant-loop-row : goal.invariant-loop-row
invariant-loop-row l =
    slice_get (ranges_in l.part (drop l.row-index l.rows)) l.left
    ≡ slice_get (ranges_in l.part l.rows) l.index
