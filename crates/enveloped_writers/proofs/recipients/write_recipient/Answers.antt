use Rattle.std.proofs.Common.{refl}
use Rattle.enveloped_writers.proofs.RecipientTexts.{is_text, not_text}
use Rattle.enveloped_writers.specs.Values.{parts_value}
use Rattle.enveloped_writers.proofs.recipients.write_recipient.Goals as goal

pub returns-in-Ok : goal.returns-in-Ok
returns-in-Ok c = is_text c.args.given.now (parts_value c.in_ok-recipient.recipient) c.in_ok-recipient.ensures c.in-Ok.text.items c.in-Ok.ensures

pub returns : goal.returns
returns c = not_text c.args.given.now (parts_value c.in_ok-recipient.recipient) c.in_ok-recipient.ensures _ c.in-Err.error refl c.in-Err.ensures
