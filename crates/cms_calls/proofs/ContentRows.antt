-- From the ranges of a content to what a call answers.
use Rattle.std.specs.Prelude.{◌≡◌, ℕ, List}
use Rattle.std.proofs.Common.{arith, refl}
use Rattle.asn1_core.specs.Der.{Format, OidOctets}
use Rattle.content_ranges.proofs.ContentPlaces.{nothing_read}
use Rattle.content_ranges.specs.Contents.{HasOther, IsContentRefusal}
use Rattle.content_ranges.specs.Indirect.{AreIndirectRanges, IsIndirectRefusal}
use Rattle.content_ranges.specs.IndirectRoutes.{indirect_data}
use Rattle.content_ranges.specs.declared.ranges.IndirectRanges.{IndirectRanges}
use Rattle.call_values.proofs.Statuses.{IsRefusedFor, refusal_bounds, refusal_place, refusal_says, short_error}
use Rattle.cms_calls.specs.Contents.{FindsIndirect, indirect_row, no_indirect, without_content}
use Rattle.call_values.specs.Statuses.{place_of, status_of_refusal}
use Rattle.cms_calls.specs.declared.contents.Indirect.{Indirect}
use Rattle.input_ranges.specs.declared.ranges.Refusal.{Refusal}
use Rattle.input_ranges.specs.declared.ranges.Refusal.TheVariants.{Refused, Part, NoRange}
use Rattle.pkcs7_content.specs.Oids.{indirect_data_oid}

-- why content isn't read
pub refused_content : {W : Type 0} (oid : OidOctets) (G : Format W) (b : List ℕ) (e : Refusal) → IsContentRefusal oid G b e → IsRefusedFor (without_content oid G b) b e
refused_content oid G b (Refused e at) why = (short_error (without_content oid G b) e tt why.0.kind (λ m v w has. why.0.none m v has.has.is_value.reads), why.1)
refused_content oid G b (Part e at) why = (short_error (without_content oid G b) e tt why.0.none.kind (λ m v w has. nothing_read oid b G e why.0 m v w has), why.1)
refused_content oid G b NoRange why = absurd why

module _ (b : List ℕ) where
  pub indirect_found : (r : IndirectRanges) (new : Indirect) → AreIndirectRanges b r → new ≡ indirect_row r → FindsIndirect b new 0 0
  indirect_found r new are is = record {
    found = λ _. (r, are, is);
    why = record {
      unknown = λ h. absurd (omega (arith, h));
      refused = λ low high. absurd (omega (arith, low));
      long = λ h. absurd (omega (arith, h));
      memory = λ h. absurd (omega (arith, h));
      no_range = λ h. absurd (omega (arith, h));
      absent = λ h. absurd (omega (arith, h));
    };
    none = λ n. absurd (n refl);
    at = record { inside = omega arith; none = λ _. refl };
    range = (λ h. omega (arith, h), (λ h. omega (arith, h), omega arith));
  }

  pub no_indirect_found : HasOther indirect_data_oid b → FindsIndirect b no_indirect 0 11
  no_indirect_found other = record {
    found = λ h. absurd (omega (arith, h));
    why = record {
      unknown = λ h. absurd (omega (arith, h));
      refused = λ low high. absurd (omega (arith, high));
      long = λ h. absurd (omega (arith, h));
      memory = λ h. absurd (omega (arith, h));
      no_range = λ h. absurd (omega (arith, h));
      absent = λ _. other;
    };
    none = λ _. refl;
    at = record { inside = omega arith; none = λ _. refl };
    range = (λ h. omega (arith, h), (λ h. omega (arith, h), omega arith));
  }

  pub indirect_refused : (e : Refusal) (place status : ℕ) → place ≡ place_of e → status ≡ status_of_refusal e → IsIndirectRefusal b e → FindsIndirect b no_indirect place status
  indirect_refused e place status p s why =
      let range = refusal_bounds e status s in
      let W = without_content indirect_data_oid indirect_data b in
      let refused : IsRefusedFor W b e = refused_content indirect_data_oid indirect_data b e why in
      record {
        found = λ h. absurd (omega (arith, h, range.0));
        why = refusal_says W b e status s refused;
        none = λ _. refl;
        at = refusal_place W b e place status p s refused;
        range = (λ h. omega (arith, h, range.0), (range.1, omega (arith, range.2)));
      }
