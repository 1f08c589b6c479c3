use Rattle.call_values.proofs.BuiltLists.{one_more_seen}
use Rattle.cms_calls.proofs.BuiltSigned.{no_signer_at}
use Rattle.cms_calls.specs.BuiltSigned.{IsSignerBy}
use Rattle.x509_pkcs7.specs.RawSigners.{raw_signer_info_value}
use Rattle.cms_calls.proofs.built_signed.all_signers.Goals as goal

pub returns-in-Err : goal.returns-in-Err
returns-in-Err c = no_signer_at c.args.input.now c.args.rows.now c.loop-index.index _ c.in-Err.wrong c.no_signer.result c.loop-index-test.true c.in-Err.ensures c.no_signer.ensures

pub loop-index-preserved : goal.loop-index-preserved
loop-index-preserved c =
    one_more_seen (IsSignerBy c.args.input.now) raw_signer_info_value c.args.rows.now c.loop-index.all.items _ c.loop-index.index _ c.in-Ok.signer
    c.loop-index-test.true c.loop-index.invariant c.in-Ok.ensures c.in_ok-push-in-Ok.ensures.items
