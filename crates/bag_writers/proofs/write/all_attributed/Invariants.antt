use Rattle.std.specs.Prelude.{take}
use Rattle.std.specs.List.{AllZip}
use Rattle.bag_writers.specs.Written.{HasAttributes}
use Rattle.bag_writers.proofs.write.all_attributed.Given as goal

abbrev pub invariant-loop-bag : goal.invariant-loop-bag
invariant-loop-bag l = AllZip HasAttributes (take l.bag-index l.bags) l.all.items
