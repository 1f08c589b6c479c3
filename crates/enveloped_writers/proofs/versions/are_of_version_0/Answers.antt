use Rattle.std.proofs.Common.{sym, true≢false}
use Rattle.enveloped_writers.proofs.RecipientVersions.{not_all}
use Rattle.enveloped_writers.specs.Elements.{IsOfVersion}
use Rattle.signed_writers.proofs.Refused.{not_so}
use Rattle.enveloped_writers.proofs.versions.are_of_version_0.Goals as goal

pub returns-then-not-is_of_version : goal.returns-then-not-is_of_version
returns-then-not-is_of_version c =
    let none = not_so c.is_of_version.result c.is_of_version.ensures c.if-not-is_of_version.true in
    (λ e. absurd (true≢false (sym e)), λ all. absurd (not_all (IsOfVersion 0) (λ x. x.0.now) c.args.recipients.now c.loop-recipient.recipient-index _ c.loop-recipient-test.true none all))
