-- Laws of `Times.antt`.
use Rattle.std.proofs.Common.{arith}
use Rattle.asn1_core_format.specs.Format.{IsLawful}
use Rattle.asn1_core_format.specs.Leaf.{IsLawfulSpelling}
use Rattle.asn1_core_format.specs.laws.LeafLaws.{lawful_leaf}
use Rattle.asn1_leaves_times.specs.laws.TimeContentsLaws.{utc_contents_same, generalized_contents_same}
use Rattle.asn1_leaves_times.specs.laws.GrammarLaws.{utc_spelled, utc_read, generalized_spelled, generalized_read}
use Rattle.asn1_leaves.specs.Times.{generalized_spelling, generalized_time, utc_spelling, utc_time}

lawful_utc_spelling : IsLawfulSpelling utc_spelling
lawful_utc_spelling = record { one_value = utc_contents_same; spelled = utc_spelled; has_value = utc_read }

lawful_generalized_spelling : IsLawfulSpelling generalized_spelling
lawful_generalized_spelling = record {
  one_value = λ v w a b e. generalized_contents_same v w e;
  spelled = generalized_spelled;
  has_value = generalized_read;
}

pub lawful_utc_time : IsLawful utc_time
lawful_utc_time = lawful_leaf 0x17 (omega arith) utc_spelling lawful_utc_spelling

pub lawful_generalized_time : IsLawful generalized_time
lawful_generalized_time = lawful_leaf 0x18 (omega arith) generalized_spelling lawful_generalized_spelling
