-- One element, kept as it is.
use Rattle.std.specs.Prelude.{◌≡◌, ℕ, List}
use Rattle.asn1_core_element.specs.Element.{IsElement}
use Rattle.asn1_core_format.specs.FirstTags.{Listing, tag_bytes}
use Rattle.asn1_core_format.specs.Format.{Format}

-- an element whose tag is one of these
abbrev pub element_of : {IsOne : ℕ → Type 0} → Listing IsOne → Format (List ℕ)
element_of {IsOne} tags = record {
  text = λ v. v;
  IsWellFormed = λ _ v. IsElement IsOne v;
  Reads = λ _ b v. (b ≡ v) × IsElement IsOne b;
  IsNormal = λ _ b. IsElement IsOne b;
  normal = λ v. v;
  IsTag = IsOne;
  first = tags;
  least = λ _. 1;
}

-- any element
abbrev pub raw : Format (List ℕ)
raw = element_of tag_bytes
