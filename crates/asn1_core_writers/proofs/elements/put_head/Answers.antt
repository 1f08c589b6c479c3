use Rattle.asn1_core_writers.proofs.Digits.{short_head, head_slice}
use Rattle.asn1_core_writers.proofs.elements.put_head.Goals as goal

pub returns-then-len-lt128 : goal.returns-then-len-lt128
returns-then-len-lt128 g c = rw (← short_head c.args.tag c.args.len c.if-len-lt128.true) c.bytes.ensures

pub returns : goal.returns
returns g c = rw (← head_slice c.args.tag c.args.len c.digits-at.result c.digits-at.new.bytes c.if-len-lt128.false c.digits-at.ensures.digits c.digits-at.ensures.low c.digits-at.ensures.high c.digits-at.array_long) c.bytes-2.ensures
