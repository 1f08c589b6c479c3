use Rattle.std.proofs.Common.{rules}
use Rattle.asn1_choices.proofs.OidReads.{last_refused, no_last}
use Rattle.asn1_choices.proofs.alternatives.AnyOidReadChoice.read_after.Goals as goal

pub returns-in_err-kept : goal.returns-in_err-kept
returns-in_err-kept g c = let r = no_last g.R.WriteComponents.format {k = c.args.nest} c.args.oid.now {old = c.args.r.now} c.in_err-kept.ensures in search rules

pub returns-in_err-components : goal.returns-in_err-components
returns-in_err-components g c = let r = last_refused g.R.WriteComponents.format c.args.oid.now c.in_err-components.ensures in search rules
