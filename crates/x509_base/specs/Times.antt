-- Time ::= CHOICE { utcTime UTCTime, generalTime GeneralizedTime } (RFC 5280, 4.1.2.5)
use Rattle.std.proofs.Common.{inl, inr, refl}
use Rattle.asn1_core.specs.Asn1.{Asn1, CHOICE}
use Rattle.asn1_core.specs.Der.{SeesEqual, same_first, same_second}
use Rattle.asn1_leaves.specs.Asn1.{UTC_TIME, GENERALIZED_TIME}
use Rattle.asn1_leaves_times.specs.Times.{moment_of, moment_of_generalized}
use Rattle.asn1_leaves_times.specs.laws.TimesLaws.{equal_utc, equal_generalized}
use Rattle.x509_base.specs.contracts.times.TimePartialEq.TheImpl as TimeEq
use Rattle.x509_base.specs.declared.times.Time.{Time}
use Rattle.x509_base.specs.declared.times.Time.TheVariants.{Utc, Generalized}

abbrev pub time : Asn1
time = CHOICE UTC_TIME GENERALIZED_TIME refl

abbrev pub time_value : Time → time.Value
time_value (Utc t) = inl (moment_of t.0)
time_value (Generalized t) = inr (moment_of_generalized t.0)

pub time_equal : SeesEqual TimeEq.ghosts.eq time_value
time_equal (Utc x) (Utc y) = same_first (equal_utc x.0 y.0)
time_equal (Utc x) (Generalized y) = (λ e. cc, λ e. cc)
time_equal (Generalized x) (Utc y) = (λ e. cc, λ e. cc)
time_equal (Generalized x) (Generalized y) = same_second (equal_generalized x.0 y.0)
