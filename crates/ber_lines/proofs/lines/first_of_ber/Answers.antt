use Rattle.std.proofs.Common.{rules}
use Rattle.ber_lines.proofs.Items.{begins_longer}
use Rattle.ber_lines.proofs.lines.first_of_ber.Goals as goal

pub returns-in-Some-len-clause-item : goal.returns-in-Some-len-clause-item
returns-in-Some-len-clause-item c =
    begins_longer c.args.bytes.now c.in-Some.rest.now c.in-Some-len.len c.in-Some.len c.in-len1-up.len_at_least (search rules) c.in-Some.ensures c.in-Some-len.is c.requires
