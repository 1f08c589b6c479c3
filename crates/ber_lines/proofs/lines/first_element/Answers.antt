use Rattle.std.proofs.Common.{arith}
use Rattle.ber_lines.proofs.Items.{begins, some_header}
use Rattle.ber_lines.proofs.lines.first_element.Goals as goal

pub returns-in-Some-clause-item : goal.returns-in-Some-clause-item
returns-in-Some-clause-item c = begins _ _ _ _ c.in-Some.ensures.found

pub returns-in-Some-clause-some : goal.returns-in-Some-clause-some
returns-in-Some-clause-some c p = omega (arith, some_header _ _ _ _ c.in-Some.ensures.found)

pub returns-in-Some-clause-header : goal.returns-in-Some-clause-header
returns-in-Some-clause-header c p = some_header _ _ _ _ c.in-Some.ensures.found
