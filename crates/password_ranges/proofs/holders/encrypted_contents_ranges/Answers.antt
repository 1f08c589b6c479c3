use Rattle.password_ranges.proofs.Held.{contents_are}
use Rattle.password_ranges.proofs.holders.encrypted_contents_ranges.Goals as goal

pub returns-in-Ok-ranges_at : goal.returns-in-Ok-ranges_at
returns-in-Ok-ranges_at c = contents_are c.args.input.now _ c.in-Ok.ensures c.place_if-start.result c.place_if-start.ensures c.in-Ok-ranges_at.algorithm c.in-Ok-ranges_at.ensures c.content_range.result c.content_range.ensures
