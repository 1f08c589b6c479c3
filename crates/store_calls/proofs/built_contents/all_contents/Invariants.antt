use Rattle.std.specs.Prelude.{map, take}
use Rattle.std.specs.List.{AllZip}
use Rattle.store_calls.specs.BuiltContents.{IsContentBy}
use Rattle.store_writers.specs.Written.{content_value}
use Rattle.store_calls.proofs.built_contents.all_contents.Given as goal

abbrev pub invariant-loop-index : goal.invariant-loop-index
invariant-loop-index l = AllZip (IsContentBy l.input) (take l.index l.rows) (map content_value l.all.items)
