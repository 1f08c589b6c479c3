use Rattle.std.specs.Prelude.{MatchResult, map}
use Rattle.std.specs.List.{AllByRecursion}
use Rattle.std.proofs.Common.{◌-◌, List, rules, subst}
use Rattle.store_calls.proofs.Levels.{levels_read, not_all, unread_levels}
use Rattle.store_calls.specs.Levels.{HasLevels, IsLevel}
use Rattle.call_values.specs.Read.{IsUnreadAt}
use Rattle.x509_pkcs12.specs.RawBags.{raw_safe_bag_value}
use Rattle.x509_pkcs12.specs.declared.raw_bags.RawSafeBag.{RawSafeBag}
use Rattle.store_calls.proofs.nested.+levels.Goals as goal

pub check_bags-returns-in_err-check_bag : goal.check_bags-returns-in_err-check_bag
check_bags-returns-in_err-check_bag m c =
    let r = not_all c.args.number (IsLevel (HasLevels c.args.below)) c.args.bags.now c.loop-bag.bag-index c.bag-item.result _ c.loop-bag-test.true c.bag-item.is c.in_err-check_bag.ensures in
    search rules

pub check_levels-returns-in_err-bags : goal.check_levels-returns-in_err-bags
check_levels-returns-in_err-bags m c =
    let r = unread_levels c.args.octets.now c.args.number c.args.levels _ c.in_err-bags.ensures in
    search rules

pub check_levels-returns : goal.check_levels-returns
check_levels-returns m c =
    let levels = c.args.levels in
    let All : List RawSafeBag → Type 0 = λ bags. AllByRecursion (IsLevel (HasLevels (levels - 1))) (map raw_safe_bag_value bags) in
    levels_read c.args.octets.now (map raw_safe_bag_value c.in_ok-bags.bags.0.items) c.args.number levels c.if-levels-eq0.false c.in_ok-bags.ensures c.check_bags.result
    (subst (λ bags. MatchResult c.check_bags.result (λ _. All bags) (λ w. IsUnreadAt c.args.number (All bags) w)) c.as_slice.ensures.value c.check_bags.ensures)
