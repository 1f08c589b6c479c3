use Rattle.std.proofs.Common.{rules, map}
use Rattle.bag_ranges.proofs.Rows.{all_of_them, no_rows, none_of_one, one_more, one_there}
use Rattle.bag_ranges.specs.BagRoutes.{CONTENT}
use Rattle.bag_ranges.specs.Bags.{InOrder}
use Rattle.bag_ranges.specs.RawContentInfos.{raw_content_info_value}
use Rattle.bag_ranges.specs.Stores.{AreOfContent}
use Rattle.bag_ranges.proofs.stores.push_contents.Goals as goal

pub push_content-requires : goal.push_content-requires
push_content-requires c =
    let so_far = c.loop-content.invariant in
    one_there (AreOfContent c.args.input.now) CONTENT.format CONTENT.law raw_content_info_value c.args.contents.now c.args.input.now c.args.list.now.start c.args.list.now.end c.args.rows.now.items
    c.loop-content.content-index c.loop-content.start c.loop-content.rows.items c.content-item.result c.loop-content-test.true c.content-item.is so_far c.first_element-place.result (c.first_element-place.ensures so_far.inside.0 so_far.inside.1)

pub returns-in_err-push_content : goal.returns-in_err-push_content
returns-in_err-push_content c =
    no_rows (InOrder (AreOfContent c.args.input.now) (map raw_content_info_value c.args.contents.now)) _ _ _ _ c.from_residual.result c.in_err-push_content.field-0.0 (search rules)
    (none_of_one (AreOfContent c.args.input.now) raw_content_info_value c.args.contents.now c.loop-content.content-index c.content-item.result c.in_err-push_content.field-0.0 c.loop-content-test.true c.content-item.is c.in_err-push_content.ensures)

pub loop-content-preserved : goal.loop-content-preserved
loop-content-preserved c =
    let so_far = c.loop-content.invariant in
    one_more (AreOfContent c.args.input.now) CONTENT.format CONTENT.law raw_content_info_value c.args.contents.now c.args.input.now c.args.list.now.start c.args.list.now.end c.args.rows.now.items
    c.loop-content.content-index c.loop-content.start c.loop-content.rows.items c.content-item.result c.loop-content-test.true c.content-item.is so_far c.first_element-place.result (c.first_element-place.ensures so_far.inside.0 so_far.inside.1)
    c.push_content.new.rows.items c.in_ok-push_content.ensures

pub returns : goal.returns
returns c =
    all_of_them (AreOfContent c.args.input.now) CONTENT.format CONTENT.law raw_content_info_value c.args.contents.now c.args.input.now c.args.list.now.start c.args.list.now.end c.args.rows.now.items
    c.loop-content.content-index c.loop-content.start c.loop-content.rows.items c.loop-content-test.false c.loop-content.invariant
