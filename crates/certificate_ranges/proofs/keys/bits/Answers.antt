use Rattle.std.proofs.Common.{refl}
use Rattle.certificate_ranges.proofs.PartPlaces.{part_at}
use Rattle.certificate_ranges.specs.CertificateRoutes.{key_bits}
use Rattle.certificate_ranges.proofs.keys.bits.Goals as goal

pub returns : goal.returns
returns c = λ v k is o. part_at key_bits k.1.0 (k, o, (k.1.0, refl, refl)) is c.range_where.ensures
