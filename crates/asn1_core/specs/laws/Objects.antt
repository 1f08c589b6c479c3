-- Laws of `Objects.antt`.
use Rattle.std.proofs.Common.{arith}
use Rattle.asn1_core_oid.specs.Oid.{IsOid}
use Rattle.asn1_core_format.specs.Format.{IsLawful}
use Rattle.asn1_core_format.specs.laws.LeafLaws.{lawful_leaf, lawful_verbatim}
use Rattle.asn1_core.specs.Objects.{object_identifier, oid_octets}

pub lawful_object_identifier : IsLawful object_identifier
lawful_object_identifier = lawful_leaf 0x06 (omega arith) oid_octets (lawful_verbatim IsOid)
