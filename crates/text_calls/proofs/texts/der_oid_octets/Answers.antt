use Rattle.asn1_core_oid.specs.OidText.{IsTextOf}
use Rattle.call_values.specs.Given.{HasNone}
use Rattle.text_calls.proofs.Refusals.{no_text_for}
use Rattle.text_calls.proofs.texts.der_oid_octets.Goals as goal

pub returns-in-Err : goal.returns-in-Err
returns-in-Err c =
    let none = HasNone (IsTextOf c.args.text.now) in
    no_text_for (IsTextOf c.args.text.now) none none c.args.out.now c.in-Err.error c.without_text.result (λ n. n) c.in-Err.ensures c.without_text.ensures
