use Rattle.std.proofs.Common.{map, rules, subst, sym}
use Rattle.asn1_core.specs.Der.{each}
use Rattle.bag_ranges.proofs.InStores.{are_of_safe, contents_at, contents_in, no_contents, not_safe}
use Rattle.bag_ranges.proofs.Rows.{none_pushed}
use Rattle.bag_ranges.specs.BagRoutes.{CONTENT}
use Rattle.bag_ranges.specs.Bags.{InOrder, IsIn}
use Rattle.bag_ranges.specs.Failures.{Adds, HasNoRows}
use Rattle.bag_ranges.specs.RawContentInfos.{raw_content_info_value}
use Rattle.bag_ranges.specs.Stores.{AreOfContent}
use Rattle.bag_ranges.proofs.stores.push_safe.Goals as goal

pub returns-in_err-contents : goal.returns-in_err-contents
returns-in_err-contents c =
    none_pushed _ _ _ c.from_residual.result c.in_err-contents.field-0.0 (search rules)
    (not_safe c.args.input.now _ c.requires.file c.args.octets.now c.requires.octets c.in_err-contents.field-0.0 c.in_err-contents.ensures)

pub push_contents-requires : goal.push_contents-requires
push_contents-requires c =
    let contents = map raw_content_info_value c.in_ok-contents.contents.0.items in
    let at = contents_at c.args.input.now _ c.requires.file c.args.octets.now c.requires.octets contents c.in_ok-contents.ensures c.store_contents-list.result c.store_contents-list.ensures in
    subst (λ items. IsIn (each CONTENT.format).Reads c.args.input.now c.store_contents-list.result.start c.store_contents-list.result.end (map raw_content_info_value items)) (sym c.as_slice.ensures.value)
    (contents_in c.args.input.now _ c.requires.file c.args.octets.now c.requires.octets contents c.in_ok-contents.ensures c.store_contents-list.result at)

pub returns-in_err-push_contents : goal.returns-in_err-push_contents
returns-in_err-push_contents c =
    let contents = map raw_content_info_value c.in_ok-contents.contents.0.items in
    let none = subst (λ items. HasNoRows (InOrder (AreOfContent c.args.input.now) (map raw_content_info_value items)) c.in_err-push_contents.field-0.0) c.as_slice.ensures.value c.in_err-push_contents.ensures in
    none_pushed _ _ _ c.from_residual-in_err-push_contents.result c.in_err-push_contents.field-0.0 (search rules)
    (no_contents c.args.input.now _ c.requires.file c.args.octets.now c.requires.octets contents c.in_ok-contents.ensures c.in_err-push_contents.field-0.0 none)

pub returns : goal.returns
returns c =
    let contents = map raw_content_info_value c.in_ok-contents.contents.0.items in
    let at = contents_at c.args.input.now _ c.requires.file c.args.octets.now c.requires.octets contents c.in_ok-contents.ensures c.store_contents-list.result c.store_contents-list.ensures in
    let added = subst (λ items. Adds (InOrder (AreOfContent c.args.input.now) (map raw_content_info_value items) c.store_contents-list.result.start c.store_contents-list.result.end) c.args.rows.now.items c.push_contents.new.rows.items) c.as_slice.ensures.value c.in_ok-push_contents.ensures in
    are_of_safe c.args.input.now _ c.requires.file c.args.octets.now c.requires.octets contents c.in_ok-contents.ensures c.store_contents-list.result c.args.rows.now.items c.push_contents.new.rows.items at added
