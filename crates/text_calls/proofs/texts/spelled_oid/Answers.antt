use Rattle.std.specs.Prelude.{MatchResult}
use Rattle.std.proofs.Common.{inr, refl, subst}
use Rattle.asn1_core.specs.Der.{octets_of}
use Rattle.asn1_core_oid.specs.OidText.{IsTextOf}
use Rattle.asn1_core_oid.specs.Refusal.{IsRefusal}
use Rattle.text_calls.proofs.OidTexts.{no_spelling}
use Rattle.text_calls.proofs.texts.spelled_oid.Goals as goal
use Rattle.call_values.specs.Given.{HasNone}

pub returns-in_default : goal.returns-in_default
returns-in_default c = inr (refl, no_spelling c.args.text.now c.in_default.ensures.cases.0)

pub returns : goal.returns
returns c =
    subst (λ t. MatchResult c.from_text.result (λ oid. IsTextOf t (octets_of oid)) (IsRefusal (HasNone (IsTextOf t)))) c.in-Ok.ensures.cases.0 c.from_text.ensures
