use Rattle.asn1_core_oid.proofs.Groups.{leading_more}
use Rattle.asn1_core_oid.proofs.oid_contents.+write_leading.Goals as goal

pub returns : goal.returns
returns t c = leading_more c.args.n _ _ _ c.if-n-eq0.false c.in_ok-write_leading.ensures c.in_ok-push.ensures.items
