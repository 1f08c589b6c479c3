use Rattle.der_engine.specs.laws.Verdicts.{located_checks}
use Rattle.der_engine.proofs.slices.check_as_limited.Goals as goal

pub returns : goal.returns
returns g c = rw c.check_of.ensures (located_checks _ _ _ c.check_located_as.ensures)
