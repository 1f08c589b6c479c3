use Rattle.asn1_leaves_strings.specs.BmpTexts.{HoldsUnits}
use Rattle.asn1_leaves_strings.proofs.bmp_string.units.Given as goal

abbrev pub invariant-loop-character : goal.invariant-loop-character
invariant-loop-character l = HoldsUnits l.yielded l.octets.items
