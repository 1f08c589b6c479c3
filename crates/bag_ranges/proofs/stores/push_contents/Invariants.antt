use Rattle.bag_ranges.proofs.Rows.{SoFar}
use Rattle.bag_ranges.specs.BagRoutes.{CONTENT}
use Rattle.bag_ranges.specs.RawContentInfos.{raw_content_info_value}
use Rattle.bag_ranges.specs.Stores.{AreOfContent}
use Rattle.bag_ranges.proofs.stores.push_contents.Given as goal

abbrev pub invariant-loop-content : goal.invariant-loop-content
invariant-loop-content l = SoFar (AreOfContent l.input) CONTENT.format CONTENT.law raw_content_info_value l.contents l.input l.list.start l.list.end l.fn.rows.items l.content-index l.start l.rows.items
