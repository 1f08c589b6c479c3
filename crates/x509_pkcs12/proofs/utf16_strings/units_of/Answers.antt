use Rattle.x509_pkcs12.proofs.Utf16Units.{one_more, all_taken}
use Rattle.x509_pkcs12.proofs.utf16_strings.units_of.Goals as goal

pub loop-rest-preserved : goal.loop-rest-preserved
loop-rest-preserved c =
    one_more _ _ _ _ _ c.in-len2-up.len_at_least c.from_be_bytes.ensures c.in_ok-push.ensures.items c.loop-rest.invariant

pub returns : goal.returns
returns c = all_taken _ _ _ c.in_default.len_below c.loop-rest.invariant
