use Rattle.std.specs.Prelude.{◌≡◌, length}
use Rattle.std.proofs.Common.{rules, sym, true≢false, ◌∙◌}
use Rattle.bag_writers.proofs.Surrogates.{at_end, broken, taken}
use Rattle.bag_writers.proofs.utf16.is_utf16.Goals as goal

pub returns-then-not-may_follow : goal.returns-then-not-may_follow
returns-then-not-may_follow c =
    let n = broken c.args.octets.now c.loop-rest.waits c.loop-rest.rest.now c.from_be_bytes-unit.result c.in-len2-up.len_at_least c.from_be_bytes-unit.ensures (λ l. true≢false (sym (c.may_follow.ensures.1 l) ∙ c.if-not-may_follow.true)) c.loop-rest.invariant in
    (λ t. absurd (true≢false (sym t)), λ i. absurd (n i))

pub loop-rest-preserved : goal.loop-rest-preserved
loop-rest-preserved c =
    taken c.args.octets.now c.loop-rest.waits c.is_high-waits.result c.loop-rest.rest.now c.from_be_bytes-unit.result c.in-len2-up.len_at_least c.from_be_bytes-unit.ensures (c.may_follow.ensures.0 c.if-not-may_follow.false) c.is_high-waits.ensures c.loop-rest.invariant

pub returns-then-is_empty : goal.returns-then-is_empty
returns-then-is_empty c =
    let empty : length c.loop-rest.rest.now ≡ 0 = search rules in
    at_end c.args.octets.now c.loop-rest.waits c.loop-rest.rest.now empty c.loop-rest.invariant
