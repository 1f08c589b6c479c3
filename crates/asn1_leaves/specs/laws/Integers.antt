-- Laws of `Integers.antt`.
use Rattle.std.specs.Prelude.{◌≢◌, []}
use Rattle.std.proofs.Common.{arith}
use Rattle.asn1_core_format.specs.Format.{IsLawful}
use Rattle.asn1_core_format.specs.laws.LeafLaws.{lawful_leaf, lawful_verbatim}
use Rattle.asn1_leaves.specs.Integers.{integer, some_octets}

pub lawful_integer : IsLawful integer
lawful_integer = lawful_leaf 0x02 (omega arith) some_octets (lawful_verbatim (λ c. c ≢ []))
