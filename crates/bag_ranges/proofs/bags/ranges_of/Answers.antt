use Rattle.std.proofs.Common.{refl, subst}
use Rattle.bag_ranges.proofs.InBags.{is_bag}
use Rattle.bag_ranges.specs.Contained.{IsHeld, named_kind}
use Rattle.x509_pkcs12.specs.RawBags.{raw_safe_bag_value}
use Rattle.bag_ranges.proofs.bags.ranges_of.Goals as goal

pub returns : goal.returns
returns c =
    is_bag c.args.below c.args.input.now (raw_safe_bag_value c.args.bag.now) c.args.place.now c.requires c.kind_of.result c.kind_of.ensures _ refl
    (subst (λ x. IsHeld (named_kind c.kind_of.result) x c.in_ok-kind.kind) c.value.ensures c.in_ok-kind.ensures)
    c.saturating_sub.ensures c.value_range.ensures c.in_ok-friendly_name.ensures c.in_ok-local_key_id.ensures
