use Rattle.std.proofs.Common.{refl}
use Rattle.enveloped_writers.specs.Elements.{IsRecipient}
use Rattle.signed_writers.proofs.Refused.{first_at, not_so}
use Rattle.enveloped_writers.proofs.enveloped.check_recipients.Goals as goal

pub returns-then-not-is_recipient : goal.returns-then-not-is_recipient
returns-then-not-is_recipient c =
    let none = not_so c.is_recipient.result c.is_recipient.ensures c.if-not-is_recipient.true in
    (refl, refl, first_at IsRecipient (λ x. x.0.now) c.args.recipients.now c.loop-index.index _ c.loop-index-test.true none c.loop-index.invariant)
