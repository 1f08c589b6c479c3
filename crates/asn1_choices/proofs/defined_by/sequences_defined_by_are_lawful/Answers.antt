use Rattle.std.proofs.Common.{arith}
use Rattle.asn1_core.specs.Der.{lawful_within}
use Rattle.asn1_choices.specs.DefinedBy.{any_defined_by}
use Rattle.asn1_choices.specs.laws.DefinedByLaws.{lawful_any_defined_by}
use Rattle.asn1_choices.proofs.defined_by.sequences_defined_by_are_lawful.Goals as goal

pub returns : goal.returns
returns g c = lawful_within (any_defined_by g.P.AnyDefinedBy.defined_by) (lawful_any_defined_by g.P.AnyDefinedBy.defined_by g.met.P.AnyDefinedBy.lawful) 0x30 (omega arith)
