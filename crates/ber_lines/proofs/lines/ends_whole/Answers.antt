use Rattle.std.proofs.Common.{rules, arith, ◌≡◌, ◌↔◌, IsTrue, length}
use Rattle.ber_lines.proofs.Whole.{none_open}
use Rattle.ber_lines.proofs.lines.ends_whole.Goals as goal

pub returns : goal.returns
returns c =
    let i = c.loop-levels.invariant in
    let none = none_open c.loop-levels.levels c.loop-levels.rest.now (omega (arith, c.loop-levels-test.false)) in
    let e : IsTrue c.is_empty.result ↔ (length c.loop-levels.rest.now ≡ 0) = search rules in
    (λ t. i.0.1 (none.1 (e.0 t)), λ x. e.1 (none.0 (i.0.0 x)))
