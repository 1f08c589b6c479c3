use Rattle.std.proofs.Common.{rules}
use Rattle.asn1_core_format.proofs.Tags.{own_unopened, own_refused, own_has_read}
use Rattle.asn1_core_format.proofs.types.AnyAsn1Type.read_encoded.Goals as goal

pub returns-in_err-outer : goal.returns-in_err-outer
returns-in_err-outer g c =
    let r = own_unopened g.T.TaggedType.asn1.format g.T.TaggedType.asn1.law g.T.TaggedType.TAG c.TAG.result c.TAG.ensures g.met.T.TaggedType.tagged c.args.nest c.in_err-outer.ensures in
    search rules

pub returns-in_err-value : goal.returns-in_err-value
returns-in_err-value g c =
    let r = own_refused g.T.TaggedType.asn1.format g.T.TaggedType.asn1.law g.T.TaggedType.TAG c.TAG.result c.TAG.ensures g.met.T.TaggedType.tagged c.args.nest c.in_ok-outer.ensures c.in_err-value.ensures in
    search rules

pub returns : goal.returns
returns g c = own_has_read g.T.TaggedType.asn1.format g.T.TaggedType.asn1.law g.T.TaggedType.TAG c.TAG.result c.TAG.ensures g.met.T.TaggedType.tagged c.args.nest c.in_ok-outer.ensures c.in_ok-value.ensures c.close.ensures
