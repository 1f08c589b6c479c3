use Rattle.store_calls.proofs.BagRows.{bags_found}
use Rattle.store_calls.proofs.bags.der_bag_rows.Goals as goal

pub returns : goal.returns
returns c = bags_found c.args.input.now c.args.out.now c.put_found.new.out c.put_found.new.count c.put_found.new.place c.put_found.result c.bag_ranges.result c.bag_ranges.ensures c.put_found.ensures
