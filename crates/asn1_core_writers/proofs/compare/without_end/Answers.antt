use Rattle.asn1_core_writers.proofs.Ends.{before_end, before_none, taken_off, stripped}
use Rattle.asn1_core_writers.proofs.compare.without_end.Goals as goal

pub returns-in-Some-clause-before : goal.returns-in-Some-clause-before
returns-in-Some-clause-before c =
    let split = rw c.in-Some.is at (stripped c.in_ok-whole.whole.now c.args.end.now c.strip_suffix.result c.strip_suffix.ensures.cases) in
    rw c.in_ok-whole.was (before_end _ _ _ split)

pub returns-in-Some-clause-place : goal.returns-in-Some-clause-place
returns-in-Some-clause-place c =
    let split = rw c.in-Some.is at (stripped c.in_ok-whole.whole.now c.args.end.now c.strip_suffix.result c.strip_suffix.ensures.cases) in
    rw c.in_ok-whole.was (taken_off _ _ _ split)

pub returns-in-None-clause-before : goal.returns-in-None-clause-before
returns-in-None-clause-before c =
    let none = rw c.in-None.is at (stripped c.in_ok-whole.whole.now c.args.end.now c.strip_suffix.result c.strip_suffix.ensures.cases) in
    rw c.in_ok-whole.was (before_none _ _ none)
