use Rattle.std.proofs.Common.{◌≡◌, ◌++◌, length}
use Rattle.x509_pkcs12.specs.Utf16.{units_of}
use Rattle.x509_pkcs12.proofs.utf16_strings.units_of.Given as goal

abbrev pub invariant-loop-rest : goal.invariant-loop-rest
invariant-loop-rest l = l.units.items ++ units_of l.rest ≡ units_of l.octets

abbrev pub decreases-loop-rest : goal.decreases-loop-rest
decreases-loop-rest l = length l.rest
