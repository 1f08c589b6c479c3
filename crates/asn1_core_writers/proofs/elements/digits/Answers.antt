use Rattle.std.proofs.Common.{arith}
use Rattle.asn1_core_writers.proofs.Digits.{digits_more, digits_few, fewer, digits_start}
use Rattle.asn1_core_writers.proofs.elements.digits.Goals as goal

pub loop-rest-init : goal.loop-rest-init
loop-rest-init c = record {
  split = digits_start c.args.n c.args.bytes.now c.told-bytes;
  room = omega (arith, digits_few c.args.n (omega (arith, c.ranges.n.fits)));
  high = omega arith;
}

pub loop-rest-preserved : goal.loop-rest-preserved
loop-rest-preserved c =
    let i = c.loop-rest.invariant in
    record {
      split = digits_more c.args.n c.loop-rest.rest c.loop-rest.at c.loop-rest.bytes c.loop-rest-test.true i.split (omega (arith, i.room)) (omega (arith, i.high));
      room = fewer c.loop-rest.rest c.loop-rest.at c.loop-rest-test.true i.room;
      high = omega (arith, i.high);
    }
