use Rattle.std.proofs.Common.{rules, arith}
use Rattle.std.proofs.lemmas.Bool.Decides.{nat_tests}
use Rattle.asn1_core_oid.proofs.Scan.{not_at_leading_zero, at_end, not_empty}
use Rattle.asn1_core_oid.proofs.oid_contents.is_oid.Goals as goal

pub returns-then-not-inside : goal.returns-then-not-inside
returns-then-not-inside c =
    let l = c.loop-octet in
    (search rules, λ s. absurd (not_at_leading_zero c.args.octets.now l.octet-index l.inside l.invariant c.loop-octet-test.true c.if-octet.true c.if-not-inside.true s))

pub returns-then-not-is_empty : goal.returns-then-not-is_empty
returns-then-not-is_empty c =
    let l = c.loop-octet in
    at_end c.args.octets.now l.octet-index l.inside l.invariant (λ k. omega (arith, c.type_inv.octets k)) (grind (arith, nat_tests)) c.loop-octet-test.false

pub returns-else-not-is_empty : goal.returns-else-not-is_empty
returns-else-not-is_empty c = (search rules, λ s. absurd (not_empty c.args.octets.now (grind (arith, nat_tests)) s))
