use Rattle.std.proofs.Common.{refl}
use Rattle.certificate_ranges.proofs.PartPlaces.{part_at}
use Rattle.certificate_ranges.specs.CertificateRoutes.{validity}
use Rattle.certificate_ranges.proofs.parts.validity.Goals as goal

pub returns : goal.returns
returns c = λ v is. part_at validity v.0.1.1.1.1.0 (v.0, refl, refl) is c.range_where.ensures
