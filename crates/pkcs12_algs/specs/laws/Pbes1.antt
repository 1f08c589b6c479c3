-- Laws of `Pbes1.antt`.
use Rattle.std.specs.Prelude.{◌≡◌, Some}
use Rattle.asn1_core.specs.Der.{IsOid}
use Rattle.std.proofs.Common.{refl, rules}
use Rattle.asn1_choices.specs.Tables.{IsTable}
use Rattle.pkcs12_algs.specs.Tables.{alternative_with}
use Rattle.pkcs12_algs.specs.laws.TableLaws.{is_table, valid_alternative}
use Rattle.pkcs12_algs.specs.declared.pbes1.Pbes1AlgorithmKind.{Pbes1AlgorithmKind}
use Rattle.pkcs12_algs.specs.Pbes1.{pbe_kinds, pbe_oid, pbe_table}

found_pbe : (a : Pbes1AlgorithmKind) → alternative_with pbe_oid pbe_kinds (pbe_oid a) ≡ Some a
found_pbe a = search rules

pub pbe_is_table : IsTable pbe_table
pbe_is_table = is_table pbe_oid pbe_kinds found_pbe

pub pbe_valid : (a : Pbes1AlgorithmKind) → IsOid (pbe_oid a)
pbe_valid a = valid_alternative pbe_oid pbe_kinds refl (pbe_oid a) a (found_pbe a)
