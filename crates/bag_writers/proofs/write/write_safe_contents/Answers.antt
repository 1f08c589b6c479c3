use Rattle.bag_writers.proofs.Safes.{safe_result}
use Rattle.bag_writers.proofs.write.write_safe_contents.Goals as goal

pub returns : goal.returns
returns c = safe_result c.args.bags.now c.in_ok-all_attributed.field-0.items c.in_ok-all_attributed.ensures (λ v. v.items) c.write.result c.write.ensures
