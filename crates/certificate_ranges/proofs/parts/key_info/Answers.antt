use Rattle.std.proofs.Common.{refl}
use Rattle.certificate_ranges.proofs.PartPlaces.{part_at}
use Rattle.certificate_ranges.specs.CertificateRoutes.{key_info}
use Rattle.certificate_ranges.proofs.parts.key_info.Goals as goal

pub returns : goal.returns
returns c = λ v is. part_at key_info v.0.1.1.1.1.1.1.0 (v.0, refl, refl) is c.range_where.ensures
