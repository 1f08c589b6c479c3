use Rattle.x509_containers.proofs.KindLists.{HasPassed}
use Rattle.x509_containers.proofs.kinds.Kind.from_octets.Given as goal

abbrev pub invariant-loop-kind : goal.invariant-loop-kind
invariant-loop-kind l = HasPassed l.word l.kind-items l.kind-index
