use Rattle.der_engine.specs.laws.Verdicts.{located_checks}
use Rattle.der_engine.proofs.kind.check_by_kind.Goals as goal

pub returns : goal.returns
returns g c = rw c.check_of.ensures (located_checks _ _ _ c.check_located.ensures)
