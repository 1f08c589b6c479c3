-- Laws of `Nulls.antt`.
use Rattle.std.proofs.Common.{refl, arith}
use Rattle.asn1_core_format.specs.Format.{IsLawful}
use Rattle.asn1_core_format.specs.laws.LeafLaws.{lawful_leaf}
use Rattle.asn1_core.specs.Nulls.{no_contents, null_element}

pub lawful_null_element : IsLawful null_element
lawful_null_element = lawful_leaf 0x05 (omega arith) no_contents (record { one_value = λ v w h i e. refl; spelled = λ v h. refl; has_value = λ c h. (tt, h, tt) })
