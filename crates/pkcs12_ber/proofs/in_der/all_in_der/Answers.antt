use Rattle.pkcs12_ber.specs.ContentInfos.{content_info_value}
use Rattle.pkcs12_ber.proofs.Appended.{one_more_appended, none_of_all, in_one, all_appended}
use Rattle.pkcs12_ber.proofs.in_der.all_in_der.Goals as goal

pub returns-in-Err : goal.returns-in-Err
returns-in-Err c = λ m.
    let p = c.in-Err.ensures m in (
      none_of_all content_info_value c.args.contents.now c.loop-index.index c.index-contents-index.result c.loop-index-test.true c.index-contents-index.is p.0,
      in_one content_info_value c.args.contents.now c.loop-index.index c.index-contents-index.result c.loop-index-test.true c.index-contents-index.is p.1,
    )

pub loop-index-preserved : goal.loop-index-preserved
loop-index-preserved c = one_more_appended content_info_value c.args.contents.now c.loop-index.index c.index-contents-index.result c.loop-index-test.true c.index-contents-index.is c.loop-index.invariant c.in-Ok.ensures

pub returns : goal.returns
returns c = all_appended content_info_value c.args.contents.now c.loop-index.index c.loop-index-test.false c.loop-index.invariant
