use Rattle.std.proofs.Common.{◌≤◌, length, arith}
use Rattle.std.proofs.lemmas.Bool.Decides.{nat_tests}
use Rattle.asn1_core_element.proofs.NumberOctets.{octets_are, number_is, few_are, number_held}
use Rattle.asn1_core_element.proofs.numbers.unsigned.Goals as goal
use Rattle.asn1_core_element.proofs.numbers.unsigned.Goals.{then-is_empty-via-then-is_empty, then-is_empty-via-else-is_empty+then-contents-gt5, else-contents-eq0-via-then-contents-eq0+then-contents-gt1+else-contents-lt128, else-contents-eq0-via-then-contents-eq0+else-contents-gt1, else-contents-eq0-via-else-contents-eq0}

pub returns-then-is_empty : goal.returns-then-is_empty
returns-then-is_empty c n l e =
    elim c.then-is_empty.branch [
      | then-is_empty-via-then-is_empty w ↦ let s : 1 ≤ length c.args.contents.now = (octets_are c.args.contents.now n e).some in grind (arith, nat_tests)
      | then-is_empty-via-else-is_empty+then-contents-gt5 w ↦ omega (arith, w.if-contents-gt5.true, few_are c.args.contents.now n c.args.limit l c.ranges.limit.fits e)
    ]

pub returns-then-contents-lt128 : goal.returns-then-contents-lt128
returns-then-contents-lt128 c n l e =
    let s = octets_are c.args.contents.now n e in
    omega (arith, s.fewest c.if-contents-eq0.true (omega (arith, c.if-contents-gt1.true)), c.if-contents-lt128.true)

pub returns-then-n-from : goal.returns-then-n-from
returns-then-n-from c n l e =
    omega (arith, number_is c.args.contents.now n e, c.number-n.ensures, c.if-n-from.true, l)

pub returns : goal.returns
returns c =
    number_held c.args.contents.now c.number-n.result c.args.limit (λ i. omega (arith, c.type_inv.contents i)) (grind (arith, nat_tests)) (omega (arith, c.if-contents-ge128.false))
    (λ z m. elim c.else-contents-eq0.branch [
      | else-contents-eq0-via-then-contents-eq0+then-contents-gt1+else-contents-lt128 w ↦ w.if-contents-lt128.false
      | else-contents-eq0-via-then-contents-eq0+else-contents-gt1 w ↦ absurd (omega (arith, w.if-contents-gt1.false, m))
      | else-contents-eq0-via-else-contents-eq0 w ↦ absurd (w.if-contents-eq0.false z)
    ])
    c.number-n.ensures (omega (arith, c.if-n-from.false))
