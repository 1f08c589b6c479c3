-- Content of one type in signed data: where it is, and why it isn't read.
use Rattle.std.specs.Prelude.{◌≡◌, ◌≢◌, ◌≤◌, ◌+◌, ℕ, List, length, Option, None, Some}
use Rattle.std.specs.declared.ops.Range.{Range}
use Rattle.std.proofs.Common.{refl, sym, ap, ◌∙◌, subst, arith}
use Rattle.asn1_core.specs.Der.{ElementOctets, Format, OidOctets}
use Rattle.asn1_core_element.specs.declared.error.Error.{Error}
use Rattle.asn1_core_element.specs.declared.error.Error.TheVariants.{Memory, TooLong}
use Rattle.asn1_core_format.specs.Whole.{IsValueOf}
use Rattle.asn1_located.specs.laws.LocatedLaws.{one_walk}
use Rattle.asn1_located.specs.Places.{Reading, Route, Walk}
use Rattle.asn1_located.specs.Routes.{fixed}
use Rattle.asn1_located.specs.declared.walks.Place.{Place}
use Rattle.content_ranges.specs.Contents.{HasContent, HasElement, IsContentPlace, IsContentRefusal, IsUnread, IsPartAt, IsPartOrNone, LeadsOrNone, in_content}
use Rattle.input_ranges.specs.Failures.{refusal_of}
use Rattle.input_ranges.specs.declared.ranges.Refusal.{Refusal}
use Rattle.located_rows.proofs.RowLaws.{leads_after, range_is}
use Rattle.located_rows.specs.Rows.{LeadsTo}
use Rattle.signer_ranges.specs.SignerRoutes.{content_element}
use Rattle.signer_ranges.specs.Signers.{FileValue, content_info_of}
use Rattle.x509_pkcs7.specs.RawHashed.{content_of}

module _ (b : List ℕ) where
  pub place_is : (place : Place) → Walk content_element.steps 0 b place.start place.octets.now → place.start + length place.octets.now ≤ 0 + length b → IsContentPlace b place
  place_is place walk inside = record { at = λ n y w. walk; inside = omega (arith, inside) }

  pub no_place : ((n : ℕ) (y : List ℕ) → Walk content_element.steps 0 b n y → ⊥) → (place : Place) → place.start ≡ 0 → place.octets.now ≡ b → IsContentPlace b place
  no_place none place start all = record { at = λ n y w. absurd (none n y w); inside = omega (arith, start, ap length all) }

module _ (oid : OidOctets) (b : List ℕ) (v : FileValue) (element : ElementOctets) (has : HasElement oid b v element) (place : Place) (is : IsContentPlace b place) where
  element_part : content_element.IsPart v element
  element_part = (v.1.0, (v.1.0, refl, refl), (content_info_of v, refl, (element, has.is_element, refl)))

  there : Walk content_element.steps 0 b place.start place.octets.now
  there = let f = content_element.found 64 v element element_part 0 b has.is_value.reads in is.at f.0 f.1 f.2

  same_octets : place.octets.now ≡ element
  same_octets =
      let f = content_element.found 64 v element element_part 0 b has.is_value.reads in
      (one_walk content_element.steps 0 b place.start f.0 place.octets.now f.1 there f.2).1 ∙ f.3.0

  -- a place in the content is one in the input
  pub place_fits : (at : ℕ) → at ≤ length element → place.start + at ≤ length b
  place_fits at h = omega (arith, h, is.inside, ap length same_octets)

  module _ {W X : Type 0} {S : Reading X} (G : Format W) (w : W) (reads : IsValueOf G 64 element w) (part : Route (fixed G.Reads) S) where
    pub part_is : (x : X) → part.IsPart w x → (r : Range ℕ) → LeadsTo part.steps place.start place.octets.now r.start r.end → IsPartAt G part b v x r
    part_is x o r leads =
        range_is (in_content G part) 64 b v has.is_value.reads x (element, element_part, (w, reads.reads, o)) r.start r.end
        (leads_after content_element.steps part.steps 0 b place.start place.octets.now there r.start r.end leads)

    pub part_or_none : (o : Option X) → ((x : X) → o ≡ Some x → part.IsPart w x) → (r : Option (Range ℕ)) → LeadsOrNone part.steps place.start place.octets.now o r → IsPartOrNone G part b v o r
    part_or_none None is_part None leads = tt
    part_or_none None is_part (Some r) leads = absurd leads
    part_or_none (Some x) is_part None leads = absurd leads
    part_or_none (Some x) is_part (Some r) leads = part_is x (is_part x refl) r leads

-- content that is refused has no value
pub nothing_read : {W : Type 0} (oid : OidOctets) (b : List ℕ) (G : Format W) (e : Error) → IsUnread oid G b e → e ≢ Memory → (v : FileValue) (w : W) → HasContent oid G b v w → ⊥
nothing_read oid b G e is other v w has =
    let same : v ≡ is.value = is.has.is_value.only v has.has.is_value.reads in
    let some : Some has.element ≡ Some is.element = sym has.has.is_element ∙ ap (λ u. content_of (content_info_of u)) same ∙ is.has.is_element in
    let one : has.element ≡ is.element = cc in
    is.none.none other w (subst (λ c. G.Reads 64 c w) one has.reads.reads)

-- memory was refused after the content was read
pub content_refused : {W : Type 0} (oid : OidOctets) (G : Format W) (b : List ℕ) (e : Error) (r : Refusal) → e ≡ Memory → r ≡ refusal_of e → IsContentRefusal oid G b r
content_refused oid G b e r m g = subst (IsContentRefusal oid G b) (sym (g ∙ ap refusal_of m)) (record { kind = λ t. (let x : Memory ≡ TooLong = t in cc); none = λ n. absurd (n refl) }, omega arith)
