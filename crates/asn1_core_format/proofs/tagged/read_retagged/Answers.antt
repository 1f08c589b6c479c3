use Rattle.std.proofs.Common.{rules}
use Rattle.asn1_core_format.proofs.Tags.{implicit_refused, implicit_has_read}
use Rattle.asn1_core_format.proofs.tagged.read_retagged.Goals as goal

pub returns-in_err-value : goal.returns-in_err-value
returns-in_err-value g c =
    let r = implicit_refused g.T.DerSerialize.format c.args.nest c.args.tag g.T.DerTagged.TAG c.in_ok-outer.ensures c.in_err-value.ensures in
    search rules

pub returns : goal.returns
returns g c = implicit_has_read g.T.DerSerialize.format c.args.nest c.args.tag g.T.DerTagged.TAG c.in_ok-outer.ensures c.in_ok-value.ensures c.in_ok-end.ensures
