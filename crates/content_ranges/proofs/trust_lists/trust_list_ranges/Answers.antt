use Rattle.std.proofs.Common.{subst}
use Rattle.asn1_core.specs.Der.{option_value}
use Rattle.content_ranges.proofs.TrustParts.{list_is}
use Rattle.content_ranges.specs.Contents.{IsContent}
use Rattle.content_ranges.specs.TrustHeads.{trust_list_head_value}
use Rattle.content_ranges.specs.TrustRoutes.{trust_list}
use Rattle.pkcs7_content.specs.Oids.{trust_list_oid}
use Rattle.content_ranges.proofs.trust_lists.trust_list_ranges.Goals as goal

pub returns : goal.returns
returns c =
    let w = trust_list_head_value c.in-Some.head in
    let has = subst (λ o. IsContent trust_list_oid trust_list c.args.input.now (option_value trust_list_head_value o)) c.in-Some.is c.in_ok-head.ensures in
    record {
      value = has.0;
      content = w;
      has = has.1;
      are = list_is c.args.input.now has.0 w has.1 c.content_place-start.result c.content_place-start.ensures _ (record {
        version_leads = c.version.ensures;
        usages_lead = c.usages.ensures;
        identifier_leads = c.list_identifier.ensures;
        number_leads = c.sequence_number.ensures;
        this_leads = c.this_update.ensures;
        next_leads = c.next_update.ensures;
        algorithm_leads = c.algorithm.ensures;
        extensions_lead = c.extensions.ensures;
      });
    }
