-- Laws of `Octets.antt`.
use Rattle.std.proofs.Common.{arith}
use Rattle.asn1_core_format.specs.Format.{IsLawful}
use Rattle.asn1_core_format.specs.laws.LeafLaws.{lawful_leaf, lawful_verbatim}
use Rattle.asn1_core.specs.Octets.{any_octets, octet_string}

pub lawful_octet_string : IsLawful octet_string
lawful_octet_string = lawful_leaf 0x04 (omega arith) any_octets (lawful_verbatim (λ _. Unit {0}))
