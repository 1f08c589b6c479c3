use Rattle.std.proofs.Common.{rules}
use Rattle.asn1_core_format.proofs.ComponentReads.{within_refused, within_has_read}
use Rattle.asn1_choices.specs.DefinedBy.{any_defined_by}
use Rattle.asn1_choices.proofs.defined_by.read_sequence_defined_by.Goals as goal

pub returns-in_err-both : goal.returns-in_err-both
returns-in_err-both g c =
    let r = within_refused (any_defined_by g.P.AnyDefinedBy.defined_by) c.args.nest 0x30 c.in_ok-outer.ensures c.in_err-both.ensures in
    search rules

pub returns : goal.returns
returns g c = within_has_read (any_defined_by g.P.AnyDefinedBy.defined_by) c.args.nest 0x30 c.in_ok-outer.ensures c.in_ok-both.ensures c.in_ok-end.ensures
