-- Laws of `SaltKinds.antt`.
use Rattle.std.specs.Prelude.{◌≡◌, Some}
use Rattle.std.proofs.Common.{rules}
use Rattle.asn1_choices.specs.Tables.{IsTable}
use Rattle.password_ranges.specs.declared.salt_kinds.Pbes1Kind.{Pbes1Kind}
use Rattle.password_ranges.specs.declared.salt_kinds.Pbes1Kind.TheVariants.{Md2AndDes, Md5AndDes, Md2AndRc2, Md5AndRc2, Sha1AndDes, Sha1AndRc2}
use Rattle.password_ranges.specs.declared.salt_kinds.Pkcs12Kind.{Pkcs12Kind}
use Rattle.password_ranges.specs.declared.salt_kinds.Pkcs12Kind.TheVariants.{ShaAnd128BitRc4, ShaAnd40BitRc4, ShaAnd3Key3Des, ShaAnd2Key3Des, ShaAnd128BitRc2, ShaAnd40BitRc2}
use Rattle.pkcs12_algs.specs.laws.TableLaws.{is_table}
use Rattle.pkcs12_algs.specs.Tables.{alternative_with}
use Rattle.password_ranges.specs.SaltKinds.{pbes1_kinds, pbes1_oid, pbes1_table, pkcs12_kinds, pkcs12_oid, pkcs12_table}

found_pbes1 : (a : Pbes1Kind) → alternative_with pbes1_oid pbes1_kinds (pbes1_oid a) ≡ Some a
found_pbes1 Md2AndDes = search rules
found_pbes1 Md5AndDes = search rules
found_pbes1 Md2AndRc2 = search rules
found_pbes1 Md5AndRc2 = search rules
found_pbes1 Sha1AndDes = search rules
found_pbes1 Sha1AndRc2 = search rules

pub pbes1_is_table : IsTable pbes1_table
pbes1_is_table = is_table pbes1_oid pbes1_kinds found_pbes1

found_pkcs12 : (a : Pkcs12Kind) → alternative_with pkcs12_oid pkcs12_kinds (pkcs12_oid a) ≡ Some a
found_pkcs12 ShaAnd128BitRc4 = search rules
found_pkcs12 ShaAnd40BitRc4 = search rules
found_pkcs12 ShaAnd3Key3Des = search rules
found_pkcs12 ShaAnd2Key3Des = search rules
found_pkcs12 ShaAnd128BitRc2 = search rules
found_pkcs12 ShaAnd40BitRc2 = search rules

pub pkcs12_is_table : IsTable pkcs12_table
pkcs12_is_table = is_table pkcs12_oid pkcs12_kinds found_pkcs12
