use Rattle.std.proofs.Common.{rules, ◌≡◌}
use Rattle.part_calls.proofs.Listed.{listed_certificates, listed_envelope}
use Rattle.part_calls.specs.Lists.{certificates}
use Rattle.part_calls.proofs.lists.der_part_ranges.Goals as goal

pub returns-then-number-eq-CERTIFICATES : goal.returns-then-number-eq-CERTIFICATES
returns-then-number-eq-CERTIFICATES c =
    let is : c.args.number ≡ certificates = search rules in
    listed_certificates c.args.number c.args.input.now c.args.out.now c.put_found.new.out c.put_found.new.count c.put_found.new.place c.put_found.result c.certificate_ranges.result is c.certificate_ranges.ensures c.put_found.ensures

pub returns : goal.returns
returns c =
    listed_envelope c.args.number c.args.input.now c.args.out.now c.put_found-2.new.out c.put_found-2.new.count c.put_found-2.new.place c.put_found-2.result c.envelope_ranges.result c.in-Some.part c.in-Some.ensures c.envelope_ranges.ensures c.put_found-2.ensures
