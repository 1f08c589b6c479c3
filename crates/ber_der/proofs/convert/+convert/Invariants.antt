use Rattle.std.proofs.Common.{◌+◌, ◌*◌, length}
use Rattle.ber_der.specs.Ber.{IsBerWith}
use Rattle.ber_der.proofs.Steps.{SoFar}
use Rattle.ber_der.proofs.convert.+convert.Given as goal

abbrev pub decreases-convert_contents : goal.decreases-convert_contents
decreases-convert_contents l = 3 * l.nest + 1

abbrev pub decreases-convert_to_end : goal.decreases-convert_to_end
decreases-convert_to_end l = 3 * l.nest + 1

abbrev pub decreases-convert_body : goal.decreases-convert_body
decreases-convert_body l = 3 * l.nest + 2

abbrev pub decreases-convert : goal.decreases-convert
decreases-convert l = 3 * l.nest

abbrev pub invariant-convert_contents-parts : goal.invariant-convert_contents-parts
invariant-convert_contents-parts l = SoFar (IsBerWith l.fn.rule.joins l.nest) l.fn.start l.context l.contents l.rest l.fn.out.items l.out.items

abbrev pub decreases-convert_contents-parts : goal.decreases-convert_contents-parts
decreases-convert_contents-parts l = length l.rest

abbrev pub invariant-convert_to_end-parts : goal.invariant-convert_to_end-parts
invariant-convert_to_end-parts l = SoFar (IsBerWith l.fn.rule.joins l.nest) l.fn.start l.context l.bytes l.rest l.fn.out.items l.out.items

abbrev pub decreases-convert_to_end-parts : goal.decreases-convert_to_end-parts
decreases-convert_to_end-parts l = length l.rest
