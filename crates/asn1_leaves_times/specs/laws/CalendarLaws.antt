-- The numbers of a moment have two digits.
use Rattle.std.proofs.Common.{ℕ, ◌<◌, ◌≤◌, arith}
use Rattle.std.proofs.lemmas.Bool.Decides.{nat_tests}
use Rattle.asn1_leaves_times.specs.Calendar.{days_in_month, IsMoment}
use Rattle.asn1_leaves_times.specs.declared.calendar.Moment.{Moment}

pub days_in_month_le : (year month : ℕ) → days_in_month year month ≤ 31
days_in_month_le year month = grind (arith, nat_tests)

pub month_lt : (m : Moment) → IsMoment m → m.month < 100
month_lt m real = omega (arith, real.month_exists)

pub day_lt : (m : Moment) → IsMoment m → m.day < 100
day_lt m real = omega (arith, real.day_exists, days_in_month_le m.year m.month)

pub hour_lt : (m : Moment) → IsMoment m → m.hour < 100
hour_lt m real = omega (arith, real.hour_exists)

pub minute_lt : (m : Moment) → IsMoment m → m.minute < 100
minute_lt m real = omega (arith, real.minute_exists)

pub second_lt : (m : Moment) → IsMoment m → m.second < 100
second_lt m real = omega (arith, real.second_exists)
