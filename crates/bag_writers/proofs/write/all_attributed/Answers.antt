use Rattle.std.proofs.Common.{rules}
use Rattle.bag_writers.proofs.NotEncoded.{not_one}
use Rattle.bag_writers.proofs.Safes.{one_more}
use Rattle.bag_writers.proofs.write.all_attributed.Goals as goal

pub returns-in_err-attributed : goal.returns-in_err-attributed
returns-in_err-attributed c =
    let r = not_one c.args.bags.now c.loop-bag.bag-index c.bag-item.result _ c.loop-bag-test.true c.bag-item.is c.in_err-attributed.ensures in
    search rules

pub loop-bag-preserved : goal.loop-bag-preserved
loop-bag-preserved c =
    one_more c.args.bags.now c.loop-bag.all.items _ c.loop-bag.bag-index c.bag-item.result c.in_ok-attributed.field-0 c.loop-bag-test.true c.bag-item.is c.loop-bag.invariant c.in_ok-attributed.ensures c.in_ok-push.ensures.items
