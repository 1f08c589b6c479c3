use Rattle.std.proofs.Common.{refl, sym, true≢false}
use Rattle.bag_ranges.specs.RawContentInfos.{raw_content_info_value}
use Rattle.store_calls.proofs.BuiltContents.{data_again, info_read}
use Rattle.store_calls.proofs.built_contents.info_of.Goals as goal

pub returns-then-is_oid_of : goal.returns-then-is_oid_of
returns-then-is_oid_of c = data_again c.args.octets.now (raw_content_info_value c.in_ok-info.info) c.in_ok-info.ensures (c.if-is_oid_of.ensures.0 refl)

pub returns : goal.returns
returns c = info_read c.args.octets.now (raw_content_info_value c.in_ok-info.info) c.in_ok-info.ensures (λ e. true≢false (sym (c.if-is_oid_of.ensures.1 e)))
