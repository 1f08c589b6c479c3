use Rattle.std.proofs.Common.{◌-◌, get_or, inl, inr, arith}
use Rattle.asn1_core_element.proofs.Fronts.{none_empty, none_tag, none_short, none_count, none_zero, none_number, found_short, found_long, number_read}
use Rattle.asn1_core_element.proofs.front.front.Goals as goal
use Rattle.asn1_core_element.proofs.front.front.Goals.{then-count-eq0-via-then-count-eq0, then-count-eq0-via-else-count-eq0+then-count-gt8, then-count-eq0-via-else-count-eq0+else-count-gt8+then-bytes-count, then-n-lt128-via-then-n-lt128, then-n-lt128-via-else-n-lt128+then-bytes-count-2}

pub returns-then-bytes-lt2-clause-none : goal.returns-then-bytes-lt2-clause-none
returns-then-bytes-lt2-clause-none c = none_empty c.args.bytes.now c.if-bytes-lt2.true

pub returns-then-tag-eq31-clause-none : goal.returns-then-tag-eq31-clause-none
returns-then-tag-eq31-clause-none c = none_tag c.args.bytes.now c.if-tag-eq31.true

pub returns-then-bytes-first-clause-none : goal.returns-then-bytes-first-clause-none
returns-then-bytes-first-clause-none c = none_short c.args.bytes.now c.if-first-lt128.true c.if-bytes-first.true

pub returns-then-first-lt128-clause-found : goal.returns-then-first-lt128-clause-found
returns-then-first-lt128-clause-found c =
    found_short c.args.bytes.now c.if-bytes-lt2.false c.if-tag-eq31.false c.if-first-lt128.true c.if-bytes-first.false

pub returns-then-count-eq0-clause-none : goal.returns-then-count-eq0-clause-none
returns-then-count-eq0-clause-none c =
    none_count c.args.bytes.now c.if-first-lt128.false (omega arith) (elim c.then-count-eq0.branch [
      | then-count-eq0-via-then-count-eq0 w ↦ inl w.if-count-eq0.true
      | then-count-eq0-via-else-count-eq0+then-count-gt8 w ↦ inr (inl w.if-count-gt8.true)
      | then-count-eq0-via-else-count-eq0+else-count-gt8+then-bytes-count w ↦ inr (inr w.if-bytes-count.true)
    ])

pub returns-then-bytes-eq0-clause-none : goal.returns-then-bytes-eq0-clause-none
returns-then-bytes-eq0-clause-none c = none_zero c.args.bytes.now c.if-first-lt128.false c.if-bytes-eq0.true

pub returns-then-n-lt128-clause-none : goal.returns-then-n-lt128-clause-none
returns-then-n-lt128-clause-none c =
    none_number c.args.bytes.now c.if-first-lt128.false c.number-n.result (number_read c.args.bytes.now c.number-n.result (get_or c.args.bytes.now 1 0 - 128) c.number-n.ensures) (elim c.then-n-lt128.branch [
      | then-n-lt128-via-then-n-lt128 w ↦ inl w.if-n-lt128.true
      | then-n-lt128-via-else-n-lt128+then-bytes-count-2 w ↦ inr w.if-bytes-count-2.true
    ])

pub returns-clause-found : goal.returns-clause-found
returns-clause-found c =
    found_long c.args.bytes.now c.number-n.result (λ i. omega (arith, c.type_inv.bytes i)) c.if-bytes-lt2.false c.if-tag-eq31.false c.if-first-lt128.false c.if-count-eq0.false c.if-bytes-count.false c.if-bytes-eq0.false (number_read c.args.bytes.now c.number-n.result (get_or c.args.bytes.now 1 0 - 128) c.number-n.ensures) c.if-n-lt128.false c.if-bytes-count-2.false
