use Rattle.std.proofs.Common.{rules}
use Rattle.bag_ranges.proofs.InStores.{no_bags}
use Rattle.bag_ranges.specs.Failures.{HasNone}
use Rattle.bag_ranges.specs.Stores.{AreBagsOf}
use Rattle.bag_ranges.proofs.stores.rows_of_store.Goals as goal

pub returns-in_err-push_by_octets : goal.returns-in_err-push_by_octets
returns-in_err-push_by_octets c =
    let r : HasNone (AreBagsOf c.args.input.now) c.in_err-push_by_octets.field-0.0 = no_bags c.args.input.now _ c.requires _ (search rules) c.in_err-push_by_octets.field-0.0 c.in_err-push_by_octets.ensures in
    search rules
