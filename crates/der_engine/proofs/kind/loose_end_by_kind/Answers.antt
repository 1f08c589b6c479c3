use Rattle.der_engine.specs.laws.Verdicts.{located_ends}
use Rattle.der_engine.proofs.kind.loose_end_by_kind.Goals as goal

pub returns : goal.returns
returns g c = rw c.end_of.ensures (located_ends _ _ _ c.check_located.ensures)
