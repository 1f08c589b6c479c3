-- Laws of `ModuleLeaves.antt`.
use Rattle.std.specs.Prelude.{ℕ, ◌^◌, ◌%◌}
use Rattle.std.proofs.Common.{arith}
use Rattle.asn1_core_element.specs.laws.NumberLaws.{one_number, is_numeral, has_number}
use Rattle.asn1_core.specs.Der.{IsLawful, lawful_leaf, numbers_below, any_octets}
use Rattle.asn1_core_format.specs.laws.LeafLaws.{lawful_verbatim}
use Rattle.asn1_module_leaves.specs.ModuleLeaves.{enumerated, kept_octets}

pub lawful_enumerated : IsLawful enumerated
lawful_enumerated = lawful_leaf 0x0A (omega arith) (numbers_below (2 ^ 8)) (record {
  one_value = λ v w h i e. one_number v w e;
  spelled = λ v h. is_numeral (2 ^ 8) v h;
  has_value = λ c h. has_number (2 ^ 8) c h;
})

pub lawful_kept_octets : (n : ℕ) → IsLawful (kept_octets n)
lawful_kept_octets n = lawful_leaf (n % 31) (omega arith) any_octets (lawful_verbatim (λ _. Unit {0}))
