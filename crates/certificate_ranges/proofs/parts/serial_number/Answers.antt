use Rattle.std.proofs.Common.{refl}
use Rattle.certificate_ranges.proofs.PartPlaces.{part_at}
use Rattle.certificate_ranges.specs.CertificateRoutes.{serial_number}
use Rattle.certificate_ranges.proofs.parts.serial_number.Goals as goal

pub returns : goal.returns
returns c = λ v is. part_at serial_number v.0.1.0 (v.0, refl, (v.0.1.0, refl, refl)) is c.range_where.ensures
