-- Laws of `Versions.antt`.
use Rattle.std.specs.Prelude.{◌≡◌, ℕ, ◌^◌, ◌<◌, [], ◌∷◌}
use Rattle.std.specs.Int.Digits.{number_from_digits}
use Rattle.std.proofs.Common.{refl, sym, ap, ◌∙◌, arith}
use Rattle.asn1_core_element.specs.Element.{element}
use Rattle.asn1_core_element.specs.Numbers.{integer_octets}
use Rattle.asn1_core_element.specs.laws.NumberLaws.{number_integer_octets, has_number}
use Rattle.asn1_core_format.specs.Format.{IsLawful}
use Rattle.asn1_core_format.specs.Leaf.{IsLawfulSpelling}
use Rattle.asn1_core_format.specs.laws.LeafLaws.{lawful_leaf}
use Rattle.asn1_core_format.specs.laws.Numbers.{lawful_number}
use Rattle.asn1_core.specs.Versions.{only, version}

one_octet : (n : ℕ) → n < 128 → integer_octets n ≡ n ∷ []
one_octet n h =
    let c = has_number 128 (n ∷ []) (record { octets = (omega (arith, h), tt); some = omega arith; not_negative = h; fewest = λ e m. absurd (omega (arith, m)); below = omega (arith, h) }) in
    let e : number_from_digits 256 (n ∷ []) ≡ c.0 = ap (number_from_digits 256) c.1 ∙ number_integer_octets c.0 in
    let same : c.0 ≡ n = omega (arith, e) in
    sym (c.1 ∙ ap integer_octets same)

pub lawful_only : (n : ℕ) → n < 128 → IsLawfulSpelling (only n)
lawful_only n l = record {
  one_value = λ v w h i e. h ∙ sym i;
  spelled = λ v h. ap integer_octets h ∙ one_octet n l;
  has_value = λ c h. (n, h ∙ sym (one_octet n l), refl);
}

pub lawful_version : (n : ℕ) → n < 128 → IsLawful (version n)
lawful_version n l = lawful_leaf 0x02 (omega arith) (only n) (lawful_only n l)

pub lawful_version_0 : IsLawful (version 0)
lawful_version_0 = lawful_version 0 (omega arith)

pub lawful_version_1 : IsLawful (version 1)
lawful_version_1 = lawful_version 1 (omega arith)

pub lawful_version_3 : IsLawful (version 3)
lawful_version_3 = lawful_version 3 (omega arith)

-- different numbers have different contents
pub one_version : (v w : ℕ) → v < 2 ^ 8 → w < 2 ^ 8 → integer_octets v ≡ integer_octets w → v ≡ w
one_version v w h i e = (lawful_number (2 ^ 8)).components.one_value 0 (element 0x02 (integer_octets v)) v w (refl, h) (ap (element 0x02) e, i)
