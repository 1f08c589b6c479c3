use Rattle.std.proofs.Common.{rules}
use Rattle.asn1_core_format.proofs.ComponentReads.{within_refused, within_has_read}
use Rattle.asn1_core_format.proofs.within.read_within.Goals as goal

pub returns-in_err-components : goal.returns-in_err-components
returns-in_err-components g c =
    let r = within_refused g.R.WriteComponents.format c.args.nest c.args.tag c.in_ok-outer.ensures c.in_err-components.ensures in
    search rules

pub returns : goal.returns
returns g c = within_has_read g.R.WriteComponents.format c.args.nest c.args.tag c.in_ok-outer.ensures c.in_ok-components.ensures c.in_ok-end.ensures
