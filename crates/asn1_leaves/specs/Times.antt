-- UTCTime and GeneralizedTime, each spelled in one way.
use Rattle.asn1_core_format.specs.Format.{Format}
use Rattle.asn1_core_format.specs.Leaf.{Spelling, leaf}
use Rattle.asn1_leaves_times.specs.TimeContents.{IsUtc, utc_contents, IsGeneralized, generalized_contents}
use Rattle.asn1_leaves_times.specs.Grammar.{IsUtcContents, IsGeneralizedContents}
use Rattle.asn1_leaves_times.specs.declared.calendar.Moment.{Moment}

abbrev pub utc_spelling : Spelling Moment
utc_spelling = record { spell = utc_contents; IsValid = IsUtc; IsContents = IsUtcContents }

abbrev pub generalized_spelling : Spelling Moment
generalized_spelling = record { spell = generalized_contents; IsValid = IsGeneralized; IsContents = IsGeneralizedContents }

abbrev pub utc_time : Format Moment
utc_time = leaf 0x17 utc_spelling

abbrev pub generalized_time : Format Moment
generalized_time = leaf 0x18 generalized_spelling
