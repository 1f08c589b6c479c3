-- CMSVersion ::= INTEGER { v0(0), v1(1), v2(2), v3(3), v4(4), v5(5) } (RFC 5652, 10.2.5)
use Rattle.std.specs.Prelude.{ℕ}
use Rattle.pkcs7_content.specs.declared.versions.CmsVersion.{CmsVersion}
use Rattle.pkcs7_content.specs.declared.versions.CmsVersion.TheVariants.{V0, V1, V2, V3, V4, V5}

abbrev pub number_of : CmsVersion → ℕ
number_of V0 = 0
number_of V1 = 1
number_of V2 = 2
number_of V3 = 3
number_of V4 = 4
number_of V5 = 5
