use Rattle.std.proofs.Common.{subst}
use Rattle.asn1_core.specs.Der.{option_value}
use Rattle.content_ranges.proofs.ContentPlaces.{content_refused}
use Rattle.content_ranges.specs.Contents.{IsContent}
use Rattle.content_ranges.specs.TrustHeads.{trust_list_head_value}
use Rattle.content_ranges.specs.TrustRoutes.{trust_list}
use Rattle.pkcs7_content.specs.Oids.{trust_list_oid}
use Rattle.content_ranges.proofs.entries.trust_rows.Goals as goal

pub returns-in-Ok : goal.returns-in-Ok
returns-in-Ok c =
    let has = subst (λ o. IsContent trust_list_oid trust_list c.args.input.now (option_value trust_list_head_value o)) c.in-Some.is c.in_ok-list.ensures in
    record { value = has.0; content = trust_list_head_value c.in-Some.list; has = has.1; are = c.in-Ok.ensures has.0 has.1 }

pub returns : goal.returns
returns c =
    let has = subst (λ o. IsContent trust_list_oid trust_list c.args.input.now (option_value trust_list_head_value o)) c.in-Some.is c.in_ok-list.ensures in
    content_refused trust_list_oid trust_list c.args.input.now c.in-Err.error c.refusal_of.result (c.in-Err.ensures has.0 has.1) c.refusal_of.ensures
