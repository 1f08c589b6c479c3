-- From the ranges of a trust list to what calls answer.
use Rattle.std.specs.Prelude.{◌≡◌, ℕ, List, map, Option, None, Some, Result, MatchResult}
use Rattle.std.proofs.Common.{arith, refl, Vec, Global}
use Rattle.asn1_core.specs.Der.{option_value}
use Rattle.content_ranges.specs.Contents.{HasOther}
use Rattle.content_ranges.specs.TrustLists.{AreTrustListRanges, AreTrustRowsOrNone, IsTrustListRefusal}
use Rattle.content_ranges.specs.TrustRoutes.{trust_list}
use Rattle.content_ranges.specs.declared.ranges.EntryRanges.{EntryRanges}
use Rattle.content_ranges.specs.declared.ranges.TrustListRanges.{TrustListRanges}
use Rattle.cms_calls.proofs.ContentRows.{refused_content}
use Rattle.call_values.proofs.Statuses.{HasOrLacks, IsRefusedFor, refusal_bounds, refusal_place, refusal_says, said, some_written}
use Rattle.cms_calls.specs.Contents.{without_content}
use Rattle.call_values.specs.Statuses.{PutsSome, Reasons, place_of, status_of_refusal}
use Rattle.cms_calls.specs.TrustLists.{AreEntryRows, FindsTrustList, ListsEntries, entry_row, no_list, trust_list_row}
use Rattle.cms_calls.specs.declared.trust_lists.TrustEntry.{TrustEntry}
use Rattle.cms_calls.specs.declared.trust_lists.TrustList.{TrustList}
use Rattle.input_ranges.specs.declared.ranges.Refusal.{Refusal}
use Rattle.pkcs7_content.specs.Oids.{trust_list_oid}

module _ (b : List ℕ) where
  abbrev W : Reasons
  W = without_content trust_list_oid trust_list b

  pub list_found : (r : TrustListRanges) (new : TrustList) → AreTrustListRanges b r → new ≡ trust_list_row r → FindsTrustList b new 0 0
  list_found r new are is = record {
    found = λ _. (r, are, is);
    why = record {
      unknown = λ h. absurd (omega (arith, h));
      refused = λ low high. absurd (omega (arith, low));
      long = λ h. absurd (omega (arith, h));
      memory = λ h. absurd (omega (arith, h));
      no_range = λ h. absurd (omega (arith, h));
      absent = λ h. absurd (omega (arith, h));
    };
    none = λ n. absurd (n refl);
    at = record { inside = omega arith; none = λ _. refl };
    range = (λ h. omega (arith, h), (λ h. omega (arith, h), omega arith));
  }

  pub no_list_found : HasOther trust_list_oid b → FindsTrustList b no_list 0 11
  no_list_found other = record {
    found = λ h. absurd (omega (arith, h));
    why = record {
      unknown = λ h. absurd (omega (arith, h));
      refused = λ low high. absurd (omega (arith, high));
      long = λ h. absurd (omega (arith, h));
      memory = λ h. absurd (omega (arith, h));
      no_range = λ h. absurd (omega (arith, h));
      absent = λ _. other;
    };
    none = λ _. refl;
    at = record { inside = omega arith; none = λ _. refl };
    range = (λ h. omega (arith, h), (λ h. omega (arith, h), omega arith));
  }

  pub list_refused : (e : Refusal) (place status : ℕ) → place ≡ place_of e → status ≡ status_of_refusal e → IsTrustListRefusal b e → FindsTrustList b no_list place status
  list_refused e place status p s why =
      let range = refusal_bounds e status s in
      let refused : IsRefusedFor W b e = refused_content trust_list_oid trust_list b e why in
      record {
        found = λ h. absurd (omega (arith, h, range.0));
        why = refusal_says W b e status s refused;
        none = λ _. refl;
        at = refusal_place W b e place status p s refused;
        range = (λ h. omega (arith, h, range.0), (range.1, omega (arith, range.2)));
      }

  abbrev rows_of : Vec EntryRanges Global → List TrustEntry
  rows_of v = map entry_row v.items

  given_rows : (r : Option (Vec EntryRanges Global)) → AreTrustRowsOrNone b (option_value (λ v. v.items) r) → HasOrLacks (AreEntryRows b) W rows_of r
  given_rows None other = other
  given_rows (Some v) are = (v.items, are, refl)

  pub listed_entries : (old new : List TrustEntry) (count place status : ℕ) (found : Result (Option (Vec EntryRanges Global)) Refusal)
      → MatchResult found (λ r. AreTrustRowsOrNone b (option_value (λ v. v.items) r)) (λ e. IsTrustListRefusal b e)
      → PutsSome rows_of found old new count place status → ListsEntries b old new count place status
  listed_entries old new count place status found given put =
      some_written (AreEntryRows b) W rows_of b old new count place status found
      (said
      (λ r. AreTrustRowsOrNone b (option_value (λ v. v.items) r))
      (λ r. HasOrLacks (AreEntryRows b) W rows_of r)
      (λ e. IsTrustListRefusal b e)
      (λ e. IsRefusedFor W b e)
      given_rows
      (λ e. refused_content trust_list_oid trust_list b e)
      found given)
      put
