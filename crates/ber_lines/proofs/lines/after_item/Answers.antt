use Rattle.std.proofs.Common.{rules}
use Rattle.ber_lines.proofs.Whole.{end_past, element_past, indefinite_past}
use Rattle.ber_lines.proofs.lines.after_item.Goals as goal

pub returns-then-begins_with_end-clause-alike : goal.returns-then-begins_with_end-clause-alike
returns-then-begins_with_end-clause-alike c = end_past c.args.rest.now c.args.levels c.requires.some (search rules)

pub returns-in-Some-len-clause-alike : goal.returns-in-Some-len-clause-alike
returns-in-Some-len-clause-alike c =
    element_past c.args.rest.now c.in-Some.contents.now c.args.levels c.in-Some-len.len c.in-Some.len c.requires.some c.in-len1-up.len_at_least (search rules) (search rules) c.in-Some.ensures c.in-Some-len.is

pub returns-clause-alike : goal.returns-clause-alike
returns-clause-alike c =
    indefinite_past c.args.rest.now c.in-Some.contents.now c.args.levels c.in-Some.len c.requires.some c.in-len1-up.len_at_least (search rules) (search rules) (search rules) c.in-Some.ensures (search rules)
