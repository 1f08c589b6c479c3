use Rattle.der_engine.specs.laws.Verdicts.{located_ends}
use Rattle.der_engine.proofs.slices.loose_end_as.Goals as goal

pub returns : goal.returns
returns g c = rw c.end_of.ensures (located_ends _ _ _ c.check_located_as.ensures)
