use Rattle.std.proofs.Common.{◌↔◌, IsTrue, false, true, map, sym, subst, rules}
use Rattle.std.proofs.lemmas.Bool.{iff_false}
use Rattle.asn1_core.specs.Der.{each}
use Rattle.asn1_core_format.proofs.ItemTests.{all_tested, one_failed}
use Rattle.pkcs12_bags.specs.Bags.{safe_bag, nested_choice}
use Rattle.pkcs12_bags.specs.laws.BagLevels.{row_holder, contents_formed}
use Rattle.pkcs12_bags.specs.BagValues.{bag_value}
use Rattle.pkcs12_bags.proofs.safe_bags.bags.+formed.Goals as goal

pub SafeBagDerSerialize::well_formed_at-returns-in-SafeContents : goal.SafeBagDerSerialize::well_formed_at-returns-in-SafeContents
SafeBagDerSerialize::well_formed_at-returns-in-SafeContents m c =
    let v = row_holder c.args.self.now c.in-SafeContents.is in
    subst (λ w. IsTrue c.inner_formed_at.result ↔ nested_choice.components.IsWellFormed c.args.limit w) (sym v) (search rules)

pub SafeContentsDerSerialize::well_formed_at-returns-then-not-well_formed_at : goal.SafeContentsDerSerialize::well_formed_at-returns-then-not-well_formed_at
SafeContentsDerSerialize::well_formed_at-returns-then-not-well_formed_at m c =
    let h = one_failed (safe_bag.IsWellFormed c.args.limit) bag_value c.deref-bag-items.result.now c.loop-bag.bag-index c.loop-bag.invariant c.bag-item.result c.loop-bag-test.true c.bag-item.is (iff_false c.well_formed_at.ensures c.if-not-well_formed_at.true) in
    contents_formed c.args.self.now c.args.limit (subst (λ xs. IsTrue false ↔ (each safe_bag).IsWellFormed c.args.limit (map bag_value xs)) c.deref-bag-items.ensures.value h)

pub SafeContentsDerSerialize::well_formed_at-returns : goal.SafeContentsDerSerialize::well_formed_at-returns
SafeContentsDerSerialize::well_formed_at-returns m c =
    let h = all_tested (safe_bag.IsWellFormed c.args.limit) bag_value c.deref-bag-items.result.now c.loop-bag.bag-index c.loop-bag.invariant c.loop-bag-test.false in
    contents_formed c.args.self.now c.args.limit (subst (λ xs. IsTrue true ↔ (each safe_bag).IsWellFormed c.args.limit (map bag_value xs)) c.deref-bag-items.ensures.value h)
