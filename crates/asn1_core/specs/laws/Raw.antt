-- Laws of `Raw.antt`.
use Rattle.std.specs.Prelude.{ℕ}
use Rattle.std.proofs.Common.{refl, sym, ◌∙◌, subst}
use Rattle.asn1_core_element.specs.Element.{IsElement}
use Rattle.asn1_core_format.specs.FirstTags.{Listing, tag_bytes}
use Rattle.asn1_core_format.specs.Format.{IsLawful}
use Rattle.asn1_core_format.specs.laws.Formats.{begins_alone}
use Rattle.asn1_core.specs.Raw.{element_of, raw}

pub lawful_element_of : {IsOne : ℕ → Type 0} (tags : Listing IsOne) → IsLawful (element_of tags)
lawful_element_of {IsOne} tags = record {
  components = record {
    begins = λ k b v r. begins_alone IsOne b r.1;
    one_value = λ k b v w r s. sym r.0 ∙ s.0;
    text_reads = λ k v h. (refl, h);
    text_normal = λ k v h. h;
    normal_reads = λ k b n. (b, (refl, n));
    fixed = λ k b v r. (λ e. r.1, λ n. sym r.0);
    well_formed = λ k b v r. subst (IsElement IsOne) r.0 r.1;
    deeper = λ k b v r. r;
  };
  element = λ k b v r. r.1;
}

pub lawful_raw : IsLawful raw
lawful_raw = lawful_element_of tag_bytes
