use Rattle.std.proofs.Common.{arith}
use Rattle.example_laws.proofs.limits_give_one_value.Goals as goal

pub returns : goal.returns
returns g c = λ b u v r s. (c.limits_agree.ensures 8 64 b u (omega arith) r).only v s
