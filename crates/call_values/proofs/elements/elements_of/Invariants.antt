use Rattle.std.specs.Prelude.{map, take}
use Rattle.std.specs.List.{AllZip}
use Rattle.call_values.specs.Given.{IsPartOf}
use Rattle.call_values.proofs.elements.elements_of.Given as goal

abbrev pub invariant-loop-index : goal.invariant-loop-index
invariant-loop-index l = AllZip (IsPartOf l.input) (take l.index l.parts) (map (λ x. x.0.now) l.all.items)
