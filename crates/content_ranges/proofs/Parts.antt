-- The parts of indirect data.
use Rattle.std.specs.Prelude.{◌≡◌, ◌≢◌, ℕ, List, Option, None, Some}
use Rattle.std.proofs.Common.{refl, sym, ◌∙◌, subst}
use Rattle.asn1_core_element.specs.declared.error.Error.{Error}
use Rattle.asn1_core_element.specs.declared.error.Error.TheVariants.{Memory}
use Rattle.asn1_core_format.specs.Whole.{HasNoValue}
use Rattle.asn1_core.specs.Der.{ElementOctets}
use Rattle.asn1_located.specs.declared.walks.Place.{Place}
use Rattle.content_ranges.proofs.ContentPlaces.{part_is, part_or_none}
use Rattle.content_ranges.specs.Contents.{HasContent, IsContentPlace, LeadsOrNone}
use Rattle.content_ranges.specs.Indirect.{AreImageRangesOrNone, AreRangesOf, IsImage, algorithm_of, digest_of, link_of, flags_of, type_of, value_of}
use Rattle.content_ranges.specs.IndirectParts.{AreImageFound, IsImageOrNone}
use Rattle.content_ranges.specs.IndirectRoutes.{ImageValue, IndirectValue, digest, digest_algorithm, flags, image_data, indirect_data, link, subject_type, subject_value}
use Rattle.content_ranges.specs.declared.ranges.ImageRanges.{ImageRanges}
use Rattle.content_ranges.specs.declared.ranges.IndirectRanges.{IndirectRanges}
use Rattle.located_rows.specs.Rows.{LeadsTo}
use Rattle.pkcs7_content.specs.Oids.{indirect_data_oid, pe_image_oid}
use Rattle.signer_ranges.specs.Signers.{FileValue}

-- why a value is no image
pub other_type : (w : IndirectValue) → type_of w ≢ pe_image_oid → (i : ImageValue) → IsImage w i → ⊥
other_type w other i is = other is.of_type

pub no_value : (w : IndirectValue) → value_of w ≡ None → (i : ImageValue) → IsImage w i → ⊥
no_value w none i is = let e : None ≡ Some is.element = sym none ∙ is.is_element in cc

pub unread : (w : IndirectValue) (element : ElementOctets) (e : Error) → value_of w ≡ Some element → HasNoValue image_data 64 element e → e ≢ Memory → (i : ImageValue) → IsImage w i → ⊥
unread w element e some none other i is =
    let s : Some is.element ≡ Some element = sym is.is_element ∙ some in
    let same : is.element ≡ element = cc in
    none.none other i (subst (λ c. image_data.Reads 64 c i) same is.reads.reads)

module _ (b : List ℕ) (v : FileValue) (w : IndirectValue) (has : HasContent indirect_data_oid indirect_data b v w) (place : Place) (is : IsContentPlace b place) where
  image_is : (i : Option ImageValue) → IsImageOrNone w i → (r : Option ImageRanges) → AreImageFound place.start place.octets.now i r → AreImageRangesOrNone b v w r
  image_is None none None led = none
  image_is None none (Some r) led = absurd led
  image_is (Some i) one None led = absurd led
  image_is (Some i) one (Some r) led = record {
    image = i;
    is_image = one;
    flags_at = part_or_none indirect_data_oid b v has.element has.has place is indirect_data w has.reads flags (flags_of i) (λ f e. (i, (one.element, (w.0, refl, one.is_element), one.reads.reads), (f, e, refl))) r.flags led.flags_lead;
    link_at = part_or_none indirect_data_oid b v has.element has.has place is indirect_data w has.reads link (link_of i) (λ f e. (i, (one.element, (w.0, refl, one.is_element), one.reads.reads), (f, e, refl))) r.link led.link_leads;
  }

  module _ (r : IndirectRanges) (i : Option ImageValue) where
    pub ranges_are : LeadsTo subject_type.steps place.start place.octets.now r.ty.start r.ty.end
        → LeadsOrNone subject_value.steps place.start place.octets.now (value_of w) r.value
        → IsImageOrNone w i → AreImageFound place.start place.octets.now i r.image
        → LeadsTo digest_algorithm.steps place.start place.octets.now r.digest_algorithm.start r.digest_algorithm.end
        → LeadsTo digest.steps place.start place.octets.now r.digest.start r.digest.end
        → AreRangesOf b v w r
    ranges_are type_led value_led is_image image_led algorithm_led digest_led = record {
      type_at = part_is indirect_data_oid b v has.element has.has place is indirect_data w has.reads subject_type (type_of w) (w.0, refl, (w.0.0, refl, refl)) r.ty type_led;
      value_at = part_or_none indirect_data_oid b v has.element has.has place is indirect_data w has.reads subject_value (value_of w) (λ x e. (w.0, refl, e)) r.value value_led;
      image_at = image_is i is_image r.image image_led;
      algorithm_at = part_is indirect_data_oid b v has.element has.has place is indirect_data w has.reads digest_algorithm (algorithm_of w) (w.1.0, refl, refl) r.digest_algorithm algorithm_led;
      digest_at = part_is indirect_data_oid b v has.element has.has place is indirect_data w has.reads digest (digest_of w) (w.1.0, refl, (w.1.0.1.0, refl, refl)) r.digest digest_led;
    }
