use Rattle.std.proofs.Common.{ap, map, rules, subst, sym}
use Rattle.asn1_core.specs.Der.{IsValueOf, option_value, within}
use Rattle.bag_ranges.proofs.InStores.{are_of_data, no_bags_in_data, safe_at}
use Rattle.bag_ranges.proofs.Rows.{no_rows}
use Rattle.bag_ranges.specs.BagRoutes.{SAFE}
use Rattle.bag_ranges.specs.Bags.{AreBags, IsIn}
use Rattle.bag_ranges.specs.Failures.{Adds, HasNoRows}
use Rattle.bag_ranges.specs.RawContentInfos.{raw_content_info_value}
use Rattle.bag_ranges.specs.Stores.{AreOfData}
use Rattle.x509_pkcs12.specs.RawBags.{raw_safe_bag_value}
use Rattle.bag_ranges.proofs.stores.push_data.Goals as goal

pub push_bags-requires : goal.push_bags-requires
push_bags-requires c =
    let bags = map raw_safe_bag_value c.in_ok-bags-in-Some.bags.0.0.items in
    let v = subst (λ x. IsValueOf (within 0x04 SAFE.format) 64 x bags) c.as_slice.ensures.value c.in_ok-bags-in-Some.ensures in
    let at = safe_at c.args.input.now (raw_content_info_value c.args.content.now) c.in-Some.data.0.0.items (ap (option_value (λ d. d.0.0.items)) c.in-Some.is) bags v c.args.place.now c.safe_in_data-safe.result c.requires c.safe_in_data-safe.ensures in
    subst (λ items. IsIn SAFE.format.Reads c.args.input.now c.safe_in_data-safe.result.start c.safe_in_data-safe.result.end (map raw_safe_bag_value items)) (sym c.as_slice-in-Some.ensures.value) at.is

pub returns-in_err-push_bags-in-Some : goal.returns-in_err-push_bags-in-Some
returns-in_err-push_bags-in-Some c =
    let bags = map raw_safe_bag_value c.in_ok-bags-in-Some.bags.0.0.items in
    let v = subst (λ x. IsValueOf (within 0x04 SAFE.format) 64 x bags) c.as_slice.ensures.value c.in_ok-bags-in-Some.ensures in
    let none = subst (λ items. HasNoRows (AreBags 65 c.args.input.now (map raw_safe_bag_value items)) c.in_err-push_bags-in-Some.field-0.0) c.as_slice-in-Some.ensures.value c.in_err-push_bags-in-Some.ensures in
    no_rows (AreOfData c.args.input.now (raw_content_info_value c.args.content.now)) _ _ _ _ c.from_residual-in_err-push_bags-in-Some.result c.in_err-push_bags-in-Some.field-0.0 (search rules)
    (no_bags_in_data c.args.input.now (raw_content_info_value c.args.content.now) c.in-Some.data.0.0.items (ap (option_value (λ d. d.0.0.items)) c.in-Some.is) bags v c.in_err-push_bags-in-Some.field-0.0 none)

pub returns-in_ok-push_bags-in-Some : goal.returns-in_ok-push_bags-in-Some
returns-in_ok-push_bags-in-Some c =
    let bags = map raw_safe_bag_value c.in_ok-bags-in-Some.bags.0.0.items in
    let v = subst (λ x. IsValueOf (within 0x04 SAFE.format) 64 x bags) c.as_slice.ensures.value c.in_ok-bags-in-Some.ensures in
    let at = safe_at c.args.input.now (raw_content_info_value c.args.content.now) c.in-Some.data.0.0.items (ap (option_value (λ d. d.0.0.items)) c.in-Some.is) bags v c.args.place.now c.safe_in_data-safe.result c.requires c.safe_in_data-safe.ensures in
    let added = subst (λ items. Adds (AreBags 65 c.args.input.now (map raw_safe_bag_value items) c.safe_in_data-safe.result.start c.safe_in_data-safe.result.end) c.args.rows.now.items c.push_bags.new.rows.items) c.as_slice-in-Some.ensures.value c.in_ok-push_bags-in-Some.ensures in
    are_of_data c.args.input.now (raw_content_info_value c.args.content.now) c.in-Some.data.0.0.items (ap (option_value (λ d. d.0.0.items)) c.in-Some.is) bags v c.args.place.now.start c.args.place.now.end c.safe_in_data-safe.result c.args.rows.now.items c.push_bags.new.rows.items at added
