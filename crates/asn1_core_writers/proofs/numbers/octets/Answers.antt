use Rattle.std.proofs.Common.{arith, ap, length, ◌<◌, ◌/◌, ◌%◌, ◌∷◌, [], length-append}
use Rattle.asn1_core_element.specs.laws.NumberLaws.{few_octets}
use Rattle.asn1_core_writers.proofs.IntegerOctets.{octets_start, octets_more, fewer_octets, octets_last, octets_small, octets_step}
use Rattle.asn1_core_element.specs.Numbers.{integer_octets}
use Rattle.asn1_core_writers.proofs.numbers.octets.Goals as goal

pub loop-rest-init : goal.loop-rest-init
loop-rest-init c = record {
  split = octets_start c.args.n c.args.bytes.now c.told-bytes;
  room = few_octets c.args.n (omega (arith, c.ranges.n.fits));
  high = omega arith;
}

pub loop-rest-preserved : goal.loop-rest-preserved
loop-rest-preserved c =
    let i = c.loop-rest.invariant in
    let r = c.loop-rest.rest in
    let p : 0 < c.loop-rest.at = omega (arith, i.room, ap length (octets_step r c.loop-rest-test.true), length-append (integer_octets (r / 256)) (r % 256 ∷ [])) in
    record {
      split = octets_more c.args.n r c.loop-rest.at c.loop-rest.bytes c.loop-rest-test.true i.split p (omega (arith, i.high));
      room = fewer_octets r c.loop-rest.at c.loop-rest-test.true i.room;
      high = omega (arith, i.high);
    }

pub returns-clause-octets : goal.returns-clause-octets
returns-clause-octets c =
    let i = c.loop-rest.invariant in
    octets_last c.args.n c.loop-rest.rest c.loop-rest.at c.loop-rest.bytes c.loop-rest-test.false i.split (omega (arith, i.room, ap length (octets_small c.loop-rest.rest c.loop-rest-test.false))) (omega (arith, i.high))
