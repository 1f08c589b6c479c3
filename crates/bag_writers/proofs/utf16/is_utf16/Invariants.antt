use Rattle.std.specs.Prelude.{◌↔◌, length}
use Rattle.bag_writers.proofs.Surrogates.{IsRest}
use Rattle.x509_pkcs12.specs.Utf16.{IsUtf16}
use Rattle.bag_writers.proofs.utf16.is_utf16.Given as goal

abbrev pub invariant-loop-rest : goal.invariant-loop-rest
invariant-loop-rest l = IsUtf16 l.octets ↔ IsRest l.waits l.rest

abbrev pub decreases-loop-rest : goal.decreases-loop-rest
decreases-loop-rest l = length l.rest
