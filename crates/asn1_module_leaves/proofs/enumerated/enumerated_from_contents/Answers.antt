use Rattle.asn1_module_leaves.specs.laws.Enumerations.{spells_none_in, spells_another}
use Rattle.asn1_module_leaves.proofs.enumerated.enumerated_from_contents.Goals as goal

-- src/enumerated.rt:38:1
pub returns-in-None : goal.returns-in-None
returns-in-None g c = spells_another g.T.Enumerated.numbers c.args.contents.now c.in-Ok.number c.in-Ok.ensures.spelled c.in-None.ensures

-- src/enumerated.rt:38:1
pub returns-in-Err : goal.returns-in-Err
returns-in-Err g c = spells_none_in g.T.Enumerated.numbers g.met.T.Enumerated.low c.args.contents.now c.in-Err.error c.in-Err.ensures.spelled
