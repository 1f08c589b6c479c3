-- `==` of versions is equality of their numbers.
use Rattle.std.proofs.Common.{rules}
use Rattle.asn1_core.specs.Der.{SeesEqual}
use Rattle.pkcs7_content.specs.Versions.{number_of}
use Rattle.pkcs7_content.specs.contracts.versions.CmsVersionPartialEq.TheImpl as Version

pub version_equal : SeesEqual Version.ghosts.eq number_of
version_equal x y = search rules
