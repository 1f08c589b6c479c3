-- Algorithms that encrypt with a password and have a salt and a count as their parameters, by their arcs.
use Rattle.std.specs.Prelude.{ℕ, List, [], ◌∷◌}
use Rattle.asn1_choices.specs.Tables.{Table}
use Rattle.asn1_core.specs.Der.{arcs}
use Rattle.password_ranges.specs.declared.salt_kinds.Pbes1Kind.{Pbes1Kind}
use Rattle.password_ranges.specs.declared.salt_kinds.Pbes1Kind.TheVariants.{Md2AndDes, Md5AndDes, Md2AndRc2, Md5AndRc2, Sha1AndDes, Sha1AndRc2}
use Rattle.password_ranges.specs.declared.salt_kinds.Pkcs12Kind.{Pkcs12Kind}
use Rattle.password_ranges.specs.declared.salt_kinds.Pkcs12Kind.TheVariants.{ShaAnd128BitRc4, ShaAnd40BitRc4, ShaAnd3Key3Des, ShaAnd2Key3Des, ShaAnd128BitRc2, ShaAnd40BitRc2}
use Rattle.pkcs12_algs.specs.Tables.{table}

-- an object identifier below pkcs-5, 1.2.840.113549.1.5
abbrev pkcs5 : ℕ → List ℕ
pkcs5 n = arcs (1 ∷ 2 ∷ 840 ∷ 113549 ∷ 1 ∷ 5 ∷ n ∷ [])

-- one of pkcs-12PbeIds, 1.2.840.113549.1.12.1
abbrev pkcs12_pbe : ℕ → List ℕ
pkcs12_pbe n = arcs (1 ∷ 2 ∷ 840 ∷ 113549 ∷ 1 ∷ 12 ∷ 1 ∷ n ∷ [])

-- PBES1 (RFC 8018, appendix A.3)
abbrev pub pbes1_oid : Pbes1Kind → List ℕ
pbes1_oid Md2AndDes = pkcs5 1  -- pbeWithMD2AndDES-CBC
pbes1_oid Md5AndDes = pkcs5 3  -- pbeWithMD5AndDES-CBC
pbes1_oid Md2AndRc2 = pkcs5 4  -- pbeWithMD2AndRC2-CBC
pbes1_oid Md5AndRc2 = pkcs5 6  -- pbeWithMD5AndRC2-CBC
pbes1_oid Sha1AndDes = pkcs5 10  -- pbeWithSHA1AndDES-CBC
pbes1_oid Sha1AndRc2 = pkcs5 11  -- pbeWithSHA1AndRC2-CBC

abbrev pub pbes1_kinds : List Pbes1Kind
pbes1_kinds = Md2AndDes ∷ Md5AndDes ∷ Md2AndRc2 ∷ Md5AndRc2 ∷ Sha1AndDes ∷ Sha1AndRc2 ∷ []

abbrev pub pbes1_table : Table Pbes1Kind
pbes1_table = table pbes1_oid pbes1_kinds

-- pkcs-12PbeIds (RFC 7292, appendix C)
abbrev pub pkcs12_oid : Pkcs12Kind → List ℕ
pkcs12_oid ShaAnd128BitRc4 = pkcs12_pbe 1  -- pbeWithSHAAnd128BitRC4
pkcs12_oid ShaAnd40BitRc4 = pkcs12_pbe 2  -- pbeWithSHAAnd40BitRC4
pkcs12_oid ShaAnd3Key3Des = pkcs12_pbe 3  -- pbeWithSHAAnd3-KeyTripleDES-CBC
pkcs12_oid ShaAnd2Key3Des = pkcs12_pbe 4  -- pbeWithSHAAnd2-KeyTripleDES-CBC
pkcs12_oid ShaAnd128BitRc2 = pkcs12_pbe 5  -- pbeWithSHAAnd128BitRC2-CBC
pkcs12_oid ShaAnd40BitRc2 = pkcs12_pbe 6  -- pbewithSHAAnd40BitRC2-CBC

abbrev pub pkcs12_kinds : List Pkcs12Kind
pkcs12_kinds = ShaAnd128BitRc4 ∷ ShaAnd40BitRc4 ∷ ShaAnd3Key3Des ∷ ShaAnd2Key3Des ∷ ShaAnd128BitRc2 ∷ ShaAnd40BitRc2 ∷ []

abbrev pub pkcs12_table : Table Pkcs12Kind
pkcs12_table = table pkcs12_oid pkcs12_kinds
