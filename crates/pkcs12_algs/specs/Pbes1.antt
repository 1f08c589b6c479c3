-- PKCS #12 password based encryption with parameters of the first kind (RFC 7292, appendix C).
--
-- pkcs-12PbeParams ::= SEQUENCE { salt OCTET STRING, iterations INTEGER }
use Rattle.std.specs.Prelude.{◌^◌, ℕ, List, [], ◌∷◌}
use Rattle.asn1_core.specs.Asn1.{Contents, contents, ◌then◌, end, OCTET_STRING, INTEGER_BELOW}
use Rattle.std.proofs.Common.{refl}
use Rattle.asn1_choices.specs.Tables.{Table}
use Rattle.pkcs12_algs.specs.Oids.{sha_and_40_bit_rc2_cbc_oid, sha_and_3_key_3_des_cbc_oid}
use Rattle.pkcs12_algs.specs.Tables.{table}
use Rattle.pkcs12_algs.specs.declared.pbes1.Pbes1Params.{Pbes1Params}
use Rattle.pkcs12_algs.specs.declared.pbes1.Pbes1AlgorithmKind.{Pbes1AlgorithmKind}
use Rattle.pkcs12_algs.specs.declared.pbes1.Pbes1AlgorithmKind.TheVariants.{ShaAnd40BitRc2Cbc, ShaAnd3Key3DesCbc}

-- those of pkcs-12PbeIds that are known
abbrev pub pbe_oid : Pbes1AlgorithmKind → List ℕ
pbe_oid ShaAnd40BitRc2Cbc = sha_and_40_bit_rc2_cbc_oid
pbe_oid ShaAnd3Key3DesCbc = sha_and_3_key_3_des_cbc_oid

abbrev pub pbe_kinds : List Pbes1AlgorithmKind
pbe_kinds = ShaAnd40BitRc2Cbc ∷ ShaAnd3Key3DesCbc ∷ []

abbrev pub pbe_table : Table Pbes1AlgorithmKind
pbe_table = table pbe_oid pbe_kinds

-- the salt, and the count
abbrev pub pbes1_params : Contents
pbes1_params = contents (OCTET_STRING then INTEGER_BELOW (2 ^ 32) then end) refl

abbrev pub pbes1_params_value : Pbes1Params → pbes1_params.Value
pbes1_params_value x = (x.salt.0.items, (x.iterations, tt))
