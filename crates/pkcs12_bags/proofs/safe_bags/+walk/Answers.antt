use Rattle.std.proofs.Common.{◌≡◌, ◌++◌, [], MatchResult, map, sym, ap, ◌∙◌, subst}
use Rattle.std.proofs.lemmas.List.{append-nil}
use Rattle.asn1_core_element.specs.declared.error.Error.TheVariants.{Memory}
use Rattle.pkcs12_bags.specs.laws.BagLevels.{value_contents}
use Rattle.pkcs12_bags.specs.BagValues.{bag_value, contents_value}
use Rattle.pkcs12_bags.specs.BagWalks.{walk}
use Rattle.pkcs12_bags.specs.laws.BagWalkLaws.{walk_holder, walk_plain}
use Rattle.pkcs12_bags.proofs.Walked.{walked_all, pushed}
use Rattle.pkcs12_bags.proofs.safe_bags.+walk.Goals as goal

pub bags::SafeContents::add_bags_to-returns : goal.bags::SafeContents::add_bags_to-returns
bags::SafeContents::add_bags_to-returns m c =
    walked_all bag_value c.deref-bag-items.result.now c.loop-bag.bag-index _ _ c.loop-bag.invariant c.loop-bag-test.false
    ∙ ap (λ bs. map (λ bag. bag_value bag.now) c.args.bags.now.items ++ walk (map bag_value bs)) c.deref-bag-items.ensures.value
    ∙ ap (λ v. map (λ bag. bag_value bag.now) c.args.bags.now.items ++ walk v) (sym (value_contents c.args.self.now))

pub walks::add_bag-returns-in-SafeContents : goal.walks::add_bag-returns-in-SafeContents
walks::add_bag-returns-in-SafeContents m c =
    let e = pushed (λ bag. bag_value bag.now) c.args.bags.now.items c.args.bag (walk (contents_value c.in-SafeContents.held)) c.in_ok-push.ensures.items (walk_holder c.args.bag.now c.in-SafeContents.is) in
    subst (λ t. MatchResult c.add_bags_to.result (λ x. map (λ bag. bag_value bag.now) c.add_bags_to.new.bags.items ≡ t) (λ e. e ≡ Memory)) e c.add_bags_to.ensures

pub walks::add_bag-returns-in_default : goal.walks::add_bag-returns-in_default
walks::add_bag-returns-in_default m c =
    sym (append-nil _) ∙ pushed (λ bag. bag_value bag.now) c.args.bags.now.items c.args.bag [] c.in_ok-push.ensures.items (walk_plain c.args.bag.now c.in_default.not-SafeContents)
