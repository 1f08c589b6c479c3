use Rattle.cms_calls.proofs.BuiltRecipient.{not_built}
use Rattle.cms_calls.proofs.built_recipient.recipient_text.Goals as goal

pub returns-in-Err-write_recipient : goal.returns-in-Err-write_recipient
returns-in-Err-write_recipient c = not_built c.args.input.now c.args.row.now c.in-Ok.parts c.in-Ok.ensures c.in-Err-write_recipient.wrong c.in-Err-write_recipient.ensures c.not_recipient.result c.not_recipient.ensures
