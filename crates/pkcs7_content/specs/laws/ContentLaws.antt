-- Laws of `ContentLaws.antt`.
use Rattle.std.specs.Prelude.{◌≡◌, ℕ, List}
use Rattle.std.proofs.Common.{refl, sym, subst}
use Rattle.asn1_core.specs.Der.{IsOid, oid_from_test}
use Rattle.pkcs7_content.specs.Oids.{data_oid}

pub data_oid_is : (octets : List ℕ) → octets ≡ data_oid → IsOid octets
data_oid_is octets e = subst IsOid (sym e) (oid_from_test data_oid refl)
