-- OBJECT IDENTIFIER: the contents are kept.
use Rattle.std.specs.Prelude.{ℕ, List}
use Rattle.asn1_core_oid.specs.Oid.{IsOid}
use Rattle.asn1_core_format.specs.Format.{Format}
use Rattle.asn1_core_format.specs.Leaf.{Spelling, leaf, verbatim}

abbrev pub oid_octets : Spelling (List ℕ)
oid_octets = verbatim IsOid

abbrev pub object_identifier : Format (List ℕ)
object_identifier = leaf 0x06 oid_octets
