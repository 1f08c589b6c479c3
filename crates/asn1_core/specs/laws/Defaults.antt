-- Laws of `Defaults.antt`.
use Rattle.std.specs.Prelude.{◌≡◌, ◌<◌, ◌^◌, ℕ, true, ◌&&◌, nat_eq}
use Rattle.std.proofs.Common.{refl, ap}
use Rattle.std.proofs.lemmas.Bool.{and_parts}
use Rattle.std.proofs.lemmas.Bool.Decides.{Decides-eqb, same_from_decides}
use Rattle.std.proofs.lemmas.Slice.Eq.{bytes_eq-Decides}
use Rattle.asn1_core_element.specs.Element.{element}
use Rattle.asn1_core_element.specs.laws.ElementLaws.{element_same}
use Rattle.asn1_core_element.specs.Numbers.{integer_octets}
use Rattle.asn1_core_element.specs.laws.NumberLaws.{one_number, is_numeral}
use Rattle.asn1_core_format.specs.Leaf.{Spelling, leaf}
use Rattle.asn1_core_format.specs.Numbers.{number_below, numbers_below}
use Rattle.asn1_core_format.specs.Omitted.{is_default, IsDefault}
use Rattle.asn1_core.specs.Defaults.{number_octets}

module _ {V : Type 0} (tag : ℕ) (S : Spelling V) (d : V) where
  text_same : (v : V) → (is_default (leaf tag S) (element tag (S.spell d)) v ≡ true) → element tag (S.spell v) ≡ element tag (S.spell d)
  text_same v e = (bytes_eq-Decides (element tag (S.spell v)) (element tag (S.spell d))).0 (and_parts _ _ e).0

  same_text : (v : V) → element tag (S.spell v) ≡ element tag (S.spell d) → is_default (leaf tag S) (element tag (S.spell d)) v ≡ true
  same_text v e = ap (λ b. b && true) ((bytes_eq-Decides (element tag (S.spell v)) (element tag (S.spell d))).1 e)

  -- a value of a leaf may be left out
  pub leaf_left_out : S.IsContents (S.spell d) → IsDefault (is_default (leaf tag S) (element tag (S.spell d))) (element tag (S.spell d)) (leaf tag S)
  leaf_left_out c = record { element = (tag, S.spell d, refl, refl); normal = λ k v s. (S.spell d, refl, c); exact = λ k v h. (text_same v, same_text v) }

pub number_left_out : (d : ℕ) → d < 2 ^ 8 → IsDefault (is_default (number_below (2 ^ 8)) (number_octets d)) (number_octets d) (number_below (2 ^ 8))
number_left_out d h = leaf_left_out 0x02 (numbers_below (2 ^ 8)) d (is_numeral (2 ^ 8) d h)

pub is_default_number : (n d : ℕ) → nat_eq n d ≡ is_default (number_below (2 ^ 8)) (number_octets d) n
is_default_number n d =
    same_from_decides _ _ (Decides-eqb n d) (
      λ e. one_number n d (element_same 0x02 0x02 (integer_octets n) (integer_octets d) ((bytes_eq-Decides (number_octets n) (number_octets d)).0 (and_parts _ _ e).0)).1,
      λ e. ap (λ b. b && true) ((bytes_eq-Decides (number_octets n) (number_octets d)).1 (ap number_octets e)),
    )
