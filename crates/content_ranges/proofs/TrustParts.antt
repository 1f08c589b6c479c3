-- The parts of a trust list.
use Rattle.std.specs.Prelude.{ℕ, List}
use Rattle.std.proofs.Common.{refl}
use Rattle.asn1_located.specs.declared.walks.Place.{Place}
use Rattle.content_ranges.proofs.ContentPlaces.{part_is, part_or_none}
use Rattle.content_ranges.specs.Contents.{HasContent, IsContentPlace, LeadsOrNone}
use Rattle.content_ranges.specs.TrustLists.{AreRangesOf, algorithm_of, extensions_of, list_identifier_of, next_update_of, sequence_number_of, this_update_of, usages_of, version_of}
use Rattle.content_ranges.specs.TrustRoutes.{TrustValue, algorithm, extensions, list_identifier, next_update, sequence_number, this_update, trust_list, usages, version}
use Rattle.content_ranges.specs.declared.ranges.TrustListRanges.{TrustListRanges}
use Rattle.located_rows.specs.Rows.{LeadsTo}
use Rattle.pkcs7_content.specs.Oids.{trust_list_oid}
use Rattle.signer_ranges.specs.Signers.{FileValue}

-- where the steps to each part lead from the list's element
pub record AreLed (place : Place) (w : TrustValue) (r : TrustListRanges) : Type 0 where
  pub version_leads : LeadsOrNone version.steps place.start place.octets.now (version_of w) r.version
  pub usages_lead : LeadsTo usages.steps place.start place.octets.now r.usages.start r.usages.end
  pub identifier_leads : LeadsOrNone list_identifier.steps place.start place.octets.now (list_identifier_of w) r.list_identifier
  pub number_leads : LeadsOrNone sequence_number.steps place.start place.octets.now (sequence_number_of w) r.sequence_number
  pub this_leads : LeadsTo this_update.steps place.start place.octets.now r.this_update.start r.this_update.end
  pub next_leads : LeadsOrNone next_update.steps place.start place.octets.now (next_update_of w) r.next_update
  pub algorithm_leads : LeadsTo algorithm.steps place.start place.octets.now r.algorithm.start r.algorithm.end
  pub extensions_lead : LeadsOrNone extensions.steps place.start place.octets.now (extensions_of w) r.extensions

pub list_is : (b : List ℕ) (v : FileValue) (w : TrustValue) → HasContent trust_list_oid trust_list b v w → (place : Place) → IsContentPlace b place → (r : TrustListRanges) → AreLed place w r → AreRangesOf b v w r
list_is b v w has place is r led = record {
  version_at = part_or_none trust_list_oid b v has.element has.has place is trust_list w has.reads version (version_of w) (λ x e. (x, e, refl)) r.version led.version_leads;
  usages_at = part_is trust_list_oid b v has.element has.has place is trust_list w has.reads usages (usages_of w) refl r.usages led.usages_lead;
  list_identifier_at = part_or_none trust_list_oid b v has.element has.has place is trust_list w has.reads list_identifier (list_identifier_of w) (λ x e. (x, e, refl)) r.list_identifier led.identifier_leads;
  sequence_number_at = part_or_none trust_list_oid b v has.element has.has place is trust_list w has.reads sequence_number (sequence_number_of w) (λ x e. (x, e, refl)) r.sequence_number led.number_leads;
  this_update_at = part_is trust_list_oid b v has.element has.has place is trust_list w has.reads this_update (this_update_of w) refl r.this_update led.this_leads;
  next_update_at = part_or_none trust_list_oid b v has.element has.has place is trust_list w has.reads next_update (next_update_of w) (λ x e. e) r.next_update led.next_leads;
  algorithm_at = part_is trust_list_oid b v has.element has.has place is trust_list w has.reads algorithm (algorithm_of w) refl r.algorithm led.algorithm_leads;
  extensions_at = part_or_none trust_list_oid b v has.element has.has place is trust_list w has.reads extensions (extensions_of w) (λ x e. (x, e, refl)) r.extensions led.extensions_lead;
}
