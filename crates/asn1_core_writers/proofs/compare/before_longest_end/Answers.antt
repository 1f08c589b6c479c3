use Rattle.asn1_core_writers.proofs.Ends.{same_last, other_last, whole_end}
use Rattle.asn1_core_writers.proofs.compare.before_longest_end.Goals as goal

pub returns-then-last-other : goal.returns-then-last-other
returns-then-last-other c =
    c.loop-before.invariant _ (other_last _ _ c.in-len1-up-rest.len_at_least c.in-len1-up.len_at_least c.if-last-other.true)

pub loop-before-preserved : goal.loop-before-preserved
loop-before-preserved c n h =
    c.loop-before.invariant n (same_last _ _ n c.in-len1-up-rest.len_at_least c.in-len1-up.len_at_least c.if-last-other.false h)

pub returns : goal.returns
returns c = c.loop-before.invariant _ (whole_end _ _ c.in_default.len_below)
