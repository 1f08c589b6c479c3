use Rattle.std.proofs.Common.{refl}
use Rattle.signed_writers.proofs.Refused.{first_at, not_so}
use Rattle.signed_writers.specs.Signed.{IsRevocation}
use Rattle.signed_writers.proofs.checks.check_revocations.Goals as goal

pub returns-then-not-is_revocation : goal.returns-then-not-is_revocation
returns-then-not-is_revocation c =
    let none = not_so c.is_revocation.result c.is_revocation.ensures c.if-not-is_revocation.true in
    (refl, refl, first_at IsRevocation (λ x. x.0.now) c.args.elements.now c.loop-index.index _ c.loop-index-test.true none c.loop-index.invariant)
