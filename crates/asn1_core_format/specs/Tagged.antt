-- Types with one tag, and their encodings under another tag (X.690, 8.14: IMPLICIT).
use Rattle.std.specs.Prelude.{◌≡◌, ◌↔◌, ℕ, ◌+◌, ◌-◌, ◌*◌, ◌/◌, ◌%◌, List}
use Rattle.asn1_core_element.specs.Element.{element, retag, IsTagByte}
use Rattle.asn1_core_format.specs.Format.{Format}
use Rattle.asn1_core_format.specs.FirstTags.{one_tag}

-- every encoding, also of an ill-formed value, is an element with that tag
pub record IsTagged {V : Type 0} (tag : ℕ) (F : Format V) : Type 0 where
  pub is_tag : IsTagByte tag
  pub tags : (t : ℕ) → F.IsTag t ↔ (t ≡ tag)
  pub written : (v : V) → (c : List ℕ) × (F.text v ≡ element tag c)

-- the contents of an element of F, whose tag is that one
abbrev pub inside : {V : Type 0} → ℕ → Format V → Format V
inside {V} tag F = record {
  text = λ v. F.text v;
  IsWellFormed = F.IsWellFormed;
  Reads = λ k c v. F.Reads k (element tag c) v;
  IsNormal = λ k c. F.IsNormal k (element tag c);
  normal = F.normal;
  IsTag = F.IsTag;
  first = F.first;
  least = λ v. F.least v - 1;
}

-- F, whose tag is inner, under another tag: the same contents
abbrev pub implicit : {V : Type 0} → ℕ → ℕ → Format V → Format V
implicit {V} tag inner F = record {
  text = λ v. retag tag (F.text v);
  IsWellFormed = F.IsWellFormed;
  Reads = λ k b v. (c : List ℕ) × (b ≡ element tag c) × F.Reads k (element inner c) v;
  IsNormal = λ k b. (c : List ℕ) × (b ≡ element tag c) × F.IsNormal k (element inner c);
  normal = F.normal;
  IsTag = λ t. t ≡ tag;
  first = one_tag tag;
  least = λ v. 1 + (F.least v - 1);
}

-- the tag [n], with the constructed bit of the tag under it
abbrev pub context_tag : ℕ → ℕ → ℕ
context_tag n inner = 128 + n + 32 * (inner / 32 % 2)
