use Rattle.std.proofs.Common.{ap}
use Rattle.asn1_core.specs.Der.{option_value}
use Rattle.bag_ranges.proofs.InStores.{is_unread}
use Rattle.bag_ranges.proofs.stores.push_by_octets.Goals as goal

pub returns-in_ok-push_unread-in-None : goal.returns-in_ok-push_unread-in-None
returns-in_ok-push_unread-in-None c =
    is_unread c.args.input.now _ c.requires.file c.auth_safe-place.result c.args.rows.now.items c.push_unread.new.rows.items c.auth_safe-place.ensures c.in_ok-push_unread-in-None.ensures _ (ap (option_value (λ s. s.now)) c.in-None.is)
