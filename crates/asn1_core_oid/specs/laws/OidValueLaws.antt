-- Laws of `OidValueLaws.antt`.
use Rattle.std.proofs.Common.{◌≡◌, ◌↔◌, true}
use Rattle.std.proofs.lemmas.Slice.Eq.{bytes_eq-Decides}
use Rattle.asn1_core_oid.specs.OidValue.{octets_of}
use Rattle.asn1_core_oid.specs.declared.oid.ObjectIdentifier.{ObjectIdentifier}
use Rattle.asn1_core_oid.specs.OidValueLaws.{eq_oid}

pub equal_octets : (a b : ObjectIdentifier) → (eq_oid a b ≡ true) ↔ (octets_of a ≡ octets_of b)
equal_octets a b = bytes_eq-Decides (octets_of a) (octets_of b)
