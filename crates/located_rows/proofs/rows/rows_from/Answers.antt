use Rattle.std.proofs.Common.{arith, ap, length}
use Rattle.located_rows.proofs.RowSteps.{all_rows, no_after, no_list, none_left, one_after, one_row_more, shorter}
use Rattle.located_rows.proofs.rows.rows_from.Goals as goal

pub returns-in_default : goal.returns-in_default
returns-in_default g c = λ _. no_list g.T.Row.is_row c.args.start c.args.octets.now c.loop-place.rows.items c.loop-place.place.start c.loop-place.place.octets.now c.loop-place.invariant (λ e. omega (arith, c.loop-place-test.true, ap length e)) (no_after c.loop-place.place.start c.loop-place.place.octets.now c.in_default.ensures)

pub loop-place-smaller : goal.loop-place-smaller
loop-place-smaller g c = shorter c.loop-place.place.start c.loop-place.place.octets.now c.in-Some.next.start c.in-Some.next.octets.now (one_after c.loop-place.place.start c.loop-place.place.octets.now c.in-Some.next.start c.in-Some.next.octets.now c.in-Some.ensures.0)

pub loop-place-preserved : goal.loop-place-preserved
loop-place-preserved g c =
    one_row_more g.T.Row.is_row c.args.start c.args.octets.now c.loop-place.rows.items c.push.new.self.items c.of-row.result c.in_ok-push.ensures.items
    c.loop-place.place.start c.loop-place.place.octets.now c.loop-place.invariant c.of-row.ensures c.in-Some.next.start c.in-Some.next.octets.now
    (one_after c.loop-place.place.start c.loop-place.place.octets.now c.in-Some.next.start c.in-Some.next.octets.now c.in-Some.ensures.0)

pub returns : goal.returns
returns g c = all_rows g.T.Row.is_row c.args.start c.args.octets.now c.loop-place.rows.items c.loop-place.place.start c.loop-place.place.octets.now c.loop-place.invariant (none_left c.loop-place.place.octets.now (omega (arith, c.loop-place-test.false)))
