use Rattle.std.proofs.Common.{subst}
use Rattle.asn1_core.specs.Der.{option_value}
use Rattle.content_ranges.proofs.ContentPlaces.{content_refused}
use Rattle.content_ranges.specs.Contents.{IsContent}
use Rattle.content_ranges.specs.Heads.{indirect_head_value}
use Rattle.content_ranges.specs.IndirectRoutes.{indirect_data}
use Rattle.pkcs7_content.specs.Oids.{indirect_data_oid}
use Rattle.content_ranges.proofs.indirect.indirect_ranges.Goals as goal

pub returns-in-Ok : goal.returns-in-Ok
returns-in-Ok c =
    let has = subst (λ o. IsContent indirect_data_oid indirect_data c.args.input.now (option_value indirect_head_value o)) c.in-Some.is c.in_ok-content.ensures in
    record { value = has.0; content = indirect_head_value c.in-Some.content; has = has.1; are = c.in-Ok.ensures has.0 has.1 }

pub returns : goal.returns
returns c = content_refused indirect_data_oid indirect_data c.args.input.now c.in-Err.error c.refusal_of.result c.in-Err.ensures c.refusal_of.ensures
