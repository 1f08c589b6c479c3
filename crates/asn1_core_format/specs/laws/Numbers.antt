-- Laws of `Numbers.antt`.
use Rattle.std.specs.Prelude.{ℕ}
use Rattle.std.proofs.Common.{arith}
use Rattle.asn1_core_element.specs.laws.NumberLaws.{one_number, is_numeral, has_number}
use Rattle.asn1_core_format.specs.Format.{IsLawful}
use Rattle.asn1_core_format.specs.Leaf.{IsLawfulSpelling}
use Rattle.asn1_core_format.specs.laws.LeafLaws.{lawful_leaf}
use Rattle.asn1_core_format.specs.Numbers.{number_below, numbers_below}

lawful_numbers : (bound : ℕ) → IsLawfulSpelling (numbers_below bound)
lawful_numbers bound = record {
  one_value = λ v w h i e. one_number v w e;
  spelled = λ v h. is_numeral bound v h;
  has_value = λ c h. has_number bound c h;
}

pub lawful_number : (bound : ℕ) → IsLawful (number_below bound)
lawful_number bound = lawful_leaf 0x02 (omega arith) (numbers_below bound) (lawful_numbers bound)
