use Rattle.std.proofs.Common.{◌↔◌, ◌+◌, ◌*◌, length}
use Rattle.ber_der.specs.Der.{IsDer, AreDer}
use Rattle.ber_der.proofs.canonical.+after_element.Given as goal

abbrev pub decreases-after_element : goal.decreases-after_element
decreases-after_element l = 2 * l.nest

abbrev pub decreases-are_elements : goal.decreases-are_elements
decreases-are_elements l = 2 * l.nest + 1

abbrev pub invariant-are_elements-loop-rest : goal.invariant-are_elements-loop-rest
invariant-are_elements-loop-rest l = AreDer (IsDer l.nest) l.contents ↔ AreDer (IsDer l.nest) l.rest

abbrev pub decreases-are_elements-loop-rest : goal.decreases-are_elements-loop-rest
decreases-are_elements-loop-rest l = length l.rest
