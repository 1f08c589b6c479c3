-- Laws of `Sequences.antt`, part by part, in the order of the parts.
use Rattle.std.specs.Prelude.{◌≡◌, true}
use Rattle.std.proofs.Common.{arith}
use Rattle.asn1_core_format.specs.Format.{Format, IsLawfulComponents, IsLawful, are_distinct}
use Rattle.asn1_core_format.specs.laws.Format.{distinct_tags}
use Rattle.asn1_core_format.specs.Lists.{each}
use Rattle.asn1_core_format.specs.laws.ListLaws.{lawful_each}
use Rattle.asn1_core_format.specs.Components.{part, optional}
use Rattle.asn1_core_format.specs.laws.ComponentLaws.{lawful_part, lawful_optional, lawful_within}
use Rattle.asn1_core_format.specs.Sequences.{sequence, set_of}

module _ {V W : Type 0} {F : Format V} {R : Format W} where
  pub followed_by : IsLawful F → IsLawfulComponents R → IsLawfulComponents (part F R)
  followed_by f r = lawful_part F R f r

  -- the second argument is `refl` where the part's first tags aren't those of what follows
  pub perhaps : IsLawful F → are_distinct F R ≡ true → IsLawfulComponents R → IsLawfulComponents (optional F R)
  perhaps f distinct r = lawful_optional F R f r (distinct_tags F R distinct)

pub lawful_sequence : {V : Type 0} {R : Format V} → IsLawfulComponents R → IsLawful (sequence R)
lawful_sequence {V} {R} r = lawful_within R r 0x30 (omega arith)

pub lawful_set : {V : Type 0} (F : Format V) → IsLawful F → IsLawful (set_of F)
lawful_set F f = lawful_within (each F) (lawful_each F f) 0x31 (omega arith)
