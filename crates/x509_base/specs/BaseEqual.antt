-- That `==` is equality of what the values contain, for `search`.
use Rattle.asn1_core.specs.Der.{der_equal}
use Rattle.x509_base.specs.AlgorithmParts.{algorithm_identifier_equal}
use Rattle.x509_base.specs.Versions.{version_equal}
use Rattle.x509_base.specs.Names.{name_equal, attribute_equal}
use Rattle.x509_base.specs.Extensions.{extension_equal, extensions_equal}
use Rattle.x509_base.specs.Times.{time_equal}

-- the types of X.509
pub ruleset x509_equal = (der_equal, algorithm_identifier_equal, version_equal, name_equal, attribute_equal, extension_equal, extensions_equal, time_equal)
