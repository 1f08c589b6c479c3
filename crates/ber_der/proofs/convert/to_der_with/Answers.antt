use Rattle.std.proofs.Common.{arith}
use Rattle.std.proofs.lemmas.Bool.Decides.{nat_tests}
use Rattle.ber_der.specs.declared.contexts.Role.TheVariants.{Whole}
use Rattle.ber_der.proofs.Steps.{none_longer, whole_none}
use Rattle.ber_der.proofs.convert.to_der_with.Goals as goal

pub returns-then-not-is_empty : goal.returns-then-not-is_empty
returns-then-not-is_empty c = (
  λ m. none_longer c.args.rule.joins c.args.limit Whole c.args.bytes.now c.in-Ok.rest.now _ _ c.in-Ok.ensures (grind (arith, nat_tests)),
  omega (arith, c.saturating_sub.ensures),
)

pub returns-in-Err : goal.returns-in-Err
returns-in-Err c = (λ m. whole_none c.args.rule.joins c.args.limit Whole c.args.bytes.now (c.in-Err.ensures m), omega (arith, c.saturating_sub-in-Err.ensures))
