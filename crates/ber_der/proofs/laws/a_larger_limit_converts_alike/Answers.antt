use Rattle.std.proofs.Common.{◌≡◌, ◌+◌, suc, true, subst, arith}
use Rattle.ber_der.specs.Ber.{IsBer}
use Rattle.ber_der.specs.laws.BerLaws.{deeper}
use Rattle.ber_der.specs.declared.contexts.Role.TheVariants.{Whole}
use Rattle.ber_der.proofs.laws.a_larger_limit_converts_alike.Goals as goal

pub returns : goal.returns
returns c k b d p =
    let e : suc k ≡ k + 1 = omega arith in
    subst (λ j. IsBer j Whole b d) e (deeper true k Whole b d p)
