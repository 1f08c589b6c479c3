-- The value of an `ObjectIdentifier`.
use Rattle.std.specs.Prelude.{ℕ, List}
use Rattle.asn1_core_oid.specs.declared.oid.ObjectIdentifier.{ObjectIdentifier}

-- its contents octets
abbrev pub octets_of : ObjectIdentifier → List ℕ
octets_of oid = oid.octets.items
