-- Version ::= INTEGER { v1(0), v2(1), v3(2) } (RFC 5280, 4.1.2.1)
use Rattle.std.proofs.Common.{rules}
use Rattle.asn1_core.specs.Asn1.{Asn1, INTEGER_BELOW}
use Rattle.asn1_core.specs.Der.{SeesEqual}
use Rattle.x509_base.specs.contracts.versions.VersionPartialEq.TheImpl as VersionEq
use Rattle.x509_base.specs.declared.versions.Version.{Version}
use Rattle.x509_base.specs.declared.versions.Version.TheVariants.{V1, V2, V3}

abbrev pub version : Asn1
version = INTEGER_BELOW 3

abbrev pub version_value : Version → version.Value
version_value V1 = 0
version_value V2 = 1
version_value V3 = 2

pub version_equal : SeesEqual VersionEq.ghosts.eq version_value
version_equal x y = search rules
