use Rattle.std.specs.Prelude.{map, take}
use Rattle.std.specs.List.{AllByRecursion}
use Rattle.signed_writers.specs.Signed.{IsChoice}
use Rattle.signed_writers.proofs.checks.check_choices.Given as goal

abbrev pub invariant-loop-index : goal.invariant-loop-index
invariant-loop-index l = AllByRecursion IsChoice (map (λ x. x.0.now) (take l.index l.elements))
