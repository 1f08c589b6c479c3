use Rattle.password_ranges.proofs.Held.{key_is}
use Rattle.password_ranges.proofs.holders.encrypted_key_ranges.Goals as goal

pub returns-in-Ok-ranges_at : goal.returns-in-Ok-ranges_at
returns-in-Ok-ranges_at c = key_is c.args.input.now _ c.in-Ok.ensures c.place_if-start.result c.place_if-start.ensures c.in-Ok-ranges_at.algorithm c.in-Ok-ranges_at.ensures c.range_from.result c.range_from.ensures
