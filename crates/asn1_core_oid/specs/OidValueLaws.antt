-- An `ObjectIdentifier` has valid contents octets, and is compared by them.
use Rattle.std.proofs.Common.{Bool}
use Rattle.asn1_core_oid.specs.declared.oid.ObjectIdentifier.{ObjectIdentifier}
use Rattle.asn1_core_oid.specs.contracts.oid.ObjectIdentifierPartialEq.TheImpl as Impl

-- what `==` answers
abbrev pub eq_oid : ObjectIdentifier → ObjectIdentifier → Bool
eq_oid = Impl.ghosts.eq
