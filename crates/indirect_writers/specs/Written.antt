-- The values that parts are given of.
use Rattle.asn1_core.specs.Der.{option_value}
use Rattle.content_ranges.specs.IndirectRoutes.{ImageValue, IndirectValue}
use Rattle.indirect_writers.specs.declared.data.ImageData.{ImageData}
use Rattle.indirect_writers.specs.declared.data.IndirectData.{IndirectData}
use Rattle.x509_base.specs.AlgorithmParts.{algorithm_identifier_value}

abbrev pub image_value : ImageData → ImageValue
image_value x = (option_value (λ o. o.now) x.flags, (option_value (λ o. o.now) x.link, tt))

abbrev pub indirect_value : IndirectData → IndirectValue
indirect_value x = (
  (x.attribute_type.now, (option_value (λ o. o.now) x.attribute_value, tt)),
  ((algorithm_identifier_value x.digest_algorithm.now, (x.digest.now, tt)), tt),
)
