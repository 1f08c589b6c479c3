-- The moment of a time.
use Rattle.asn1_leaves_times.specs.declared.calendar.Moment.{Moment}
use Rattle.asn1_leaves_times.specs.declared.generalized_time.GeneralizedTime.{GeneralizedTime}
use Rattle.asn1_leaves_times.specs.declared.utc_time.UTCTime.{UTCTime}

abbrev pub moment_of : UTCTime → Moment
moment_of t = t.moment

abbrev pub moment_of_generalized : GeneralizedTime → Moment
moment_of_generalized t = t.moment
