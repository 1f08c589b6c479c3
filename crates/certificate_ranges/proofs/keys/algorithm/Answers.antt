use Rattle.std.proofs.Common.{refl}
use Rattle.certificate_ranges.proofs.PartPlaces.{part_at}
use Rattle.certificate_ranges.specs.CertificateRoutes.{key_algorithm}
use Rattle.certificate_ranges.proofs.keys.algorithm.Goals as goal

pub returns : goal.returns
returns c = λ v k is o. part_at key_algorithm k.0.0 (k.0, (k, o, refl), (k.0.0, refl, refl)) is c.range_where.ensures
