-- Laws of `Enveloped.antt`.
use Rattle.std.proofs.Common.{arith}
use Rattle.asn1_core.specs.Der.{followed_by, Format, IsLawful, lawful_explicit, lawful_nothing, lawful_only_oid, lawful_sequence}
use Rattle.pkcs7_enveloped.specs.laws.Enveloped.{lawful_enveloped}
use Rattle.part_ranges.specs.Enveloped.{envelope, enveloped_data_oid}

pub lawful_envelope : {V : Type 0} (F : Format V) → IsLawful F → IsLawful (envelope F)
lawful_envelope F f = lawful_sequence (followed_by (lawful_only_oid enveloped_data_oid) (followed_by (lawful_explicit (omega arith) (lawful_enveloped F f)) lawful_nothing))
