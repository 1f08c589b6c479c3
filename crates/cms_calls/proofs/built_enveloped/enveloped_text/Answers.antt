use Rattle.std.specs.Prelude.{map}
use Rattle.std.specs.List.{AllZip}
use Rattle.std.proofs.Common.{rules, subst, sym}
use Rattle.cms_calls.proofs.BuiltEnveloped.{no_recipients, not_built}
use Rattle.call_values.specs.Given.{IsPartOf}
use Rattle.cms_calls.proofs.built_enveloped.enveloped_text.Goals as goal

pub returns-in_err-elements : goal.returns-in_err-elements
returns-in_err-elements c =
    let none = no_recipients c.args.input.now c.args.given.now c.args.recipients.now c.in_err-elements.field-0.0 c.in_err-elements.ensures in
    search rules

pub returns-in-Ok : goal.returns-in-Ok
returns-in-Ok c =
    let b = c.args.input.now in
    let recipients = subst (λ all. AllZip (IsPartOf b) c.args.recipients.now (map (λ x. x.0.now) all)) (sym c.as_slice.ensures.value) c.in_ok-elements.ensures in
    not_built b c.args.given.now c.args.recipients.now c.in-Ok.info _ (record { info = c.in-Ok.ensures; recipients = recipients })
    c.in-Err-write_enveloped_data.wrong c.in-Err-write_enveloped_data.ensures c.not_enveloped.result c.not_enveloped.ensures
