-- Laws of `Pbes2.antt`.
use Rattle.asn1_core.specs.Der.{IsOid}
use Rattle.std.proofs.Common.{refl}
use Rattle.pkcs12_algs.specs.laws.TableLaws.{valid_alternative}
use Rattle.pkcs12_algs.specs.declared.pbes2.Pbes2AesCbcEncryption.{Pbes2AesCbcEncryption}
use Rattle.pkcs12_algs.specs.Pbes2.{aes_kinds, aes_oid, found_aes}

pub aes_valid : (a : Pbes2AesCbcEncryption) → IsOid (aes_oid a)
aes_valid a = valid_alternative aes_oid aes_kinds refl (aes_oid a) a (found_aes a)
