-- From the range of a MAC to its status.
use Rattle.std.proofs.Common.{◌≡◌, ◌≢◌, ℕ, ◌+◌, ◌-◌, ◌≤◌, List, subst, sym, arith, rules}
use Rattle.std.specs.Prelude.{None, Some}
use Rattle.asn1_core.specs.Der.{Format, Octets, HasNoValue}
use Rattle.asn1_core_element.specs.declared.error.Error.{Error}
use Rattle.container_parts.specs.MacParts.{HasCountIn}
use Rattle.input_ranges.specs.Failures.{IsRefusalOf}
use Rattle.input_ranges.specs.declared.ranges.Refusal.{Refusal}
use Rattle.x509_pkcs12.specs.MacRanges.{IsMacRangeIn}
use Rattle.x509_pkcs12.specs.Pfxs.{PfxValue}
use Rattle.call_values.proofs.Statuses.{bounds, error_says, refusal_bounds, refusal_says, refused_ranges, short_error}
use Rattle.part_calls.specs.Macs.{FindsMacIn, FindsRangeIn, without_mac, without_range}
use Rattle.call_values.specs.Statuses.{SaysWhy, status_of, status_of_refusal}
use Rattle.call_values.specs.declared.status.TheConstants.{NORMAL, NO_PART}

module _ (F : Format (PfxValue Octets)) (b : List ℕ) where
  pub found : (start end : ℕ) → IsMacRangeIn F b (Some (start, end)) → FindsRangeIn F b start (end - start) NORMAL
  found start end is =
      let inside : start ≤ end = is.place.inside.0 in
      let sum : start + (end - start) ≡ end = omega (arith, inside) in
      let same : IsMacRangeIn F b (Some (start, start + (end - start))) = subst (λ (e : ℕ). IsMacRangeIn F b (Some (start, e))) (sym sum) is in
      search rules

  pub not_found : (e : Error) (status : ℕ) → status ≡ status_of e → HasNoValue F 64 b e → FindsRangeIn F b 0 0 status
  not_found e status is why =
      let range = bounds e in
      let says : SaysWhy (without_range F b) status = error_says (without_range F b) status e is (short_error (without_range F b) e tt why.kind why.none) in
      search rules

  -- why there is no range is why there is no MAC
  pub no_range_no_mac : (start len status : ℕ) → status ≢ NORMAL → FindsRangeIn F b start len status → FindsMacIn F b start len 0 status
  no_range_no_mac start len status n r =
      let says : SaysWhy (without_mac F b) status = record { unknown = r.why.unknown; refused = r.why.refused; long = r.why.long; memory = r.why.memory; no_range = r.why.no_range; absent = λ h. absurd (r.why.absent h) } in
      search rules

  -- a range and a count
  pub mac_found : (start len count status : ℕ) → status ≡ NORMAL → FindsRangeIn F b start len status → HasCountIn F b (Some count) → FindsMacIn F b start len count NORMAL
  mac_found start len count status zero r is = let range : IsMacRangeIn F b (Some (start, start + len)) = r.found zero in search rules

  -- a range without a MAC
  pub no_mac_there : (start len status : ℕ) → status ≡ NORMAL → FindsRangeIn F b start len status → HasCountIn F b None → FindsMacIn F b 0 0 0 NO_PART
  no_mac_there start len status zero r is = let absent : (without_mac F b).IsAbsent = ((start, start + len, r.found zero), is) in search rules

  pub mac_not_found : (e : Refusal) (status : ℕ) → status ≡ status_of_refusal e → IsRefusalOf F b ⊥ e → FindsMacIn F b 0 0 0 status
  mac_not_found e status is why =
      let W = without_mac F b in
      let range = refusal_bounds e status is in
      let says : SaysWhy W status = refusal_says W b e status is (refused_ranges F W b ⊥ tt (λ none. none) (λ lacks. absurd lacks) e why) in
      search rules
