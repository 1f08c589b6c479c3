use Rattle.asn1_leaves_strings.proofs.BmpReads.{Looked}
use Rattle.asn1_leaves_strings.proofs.bmp_string.is_bmp.Given as goal

abbrev pub invariant-loop-pair : goal.invariant-loop-pair
invariant-loop-pair l = Looked l.pairs l.pair-index l.has_surrogate
