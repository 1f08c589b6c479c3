use Rattle.certificate_ranges.proofs.KeyPlaces.{key_is, no_key}
use Rattle.certificate_ranges.specs.KeyInfos.{key_value}
use Rattle.pkcs7_verifier.specs.Heads.{certificate_head_value}
use Rattle.certificate_ranges.proofs.keys.key_ranges.Goals as goal

pub returns-in-Ok : goal.returns-in-Ok
returns-in-Ok c =
    let v = certificate_head_value c.args.head.now in
    let k = key_value c.in-Ok._key in
    c.ranges_of_key.ensures v k c.requires (key_is v c.as_slice.result.now k c.as_slice.ensures.value c.in-Ok.ensures.reads)

pub returns-in_ok-without_answer-in-Err : goal.returns-in_ok-without_answer-in-Err
returns-in_ok-without_answer-in-Err c = no_key (certificate_head_value c.args.head.now) c.as_slice.result.now c.in-Err.error c.as_slice.ensures.value c.in-Err.ensures c.in_ok-without_answer-in-Err.ensures
