-- The Gregorian calendar, and the moments that it has.
use Rattle.std.specs.Prelude.{ℕ, ◌≤◌, ◌%◌, Bool, ◌||◌, ◌==◌, if◌then◌else◌}
use Rattle.asn1_leaves_times.specs.declared.calendar.Moment.{Moment}

-- each fourth year is a leap year, but of the years that end a century each fourth alone
abbrev pub is_leap : ℕ → Bool
is_leap year = if year % 100 == 0 then year % 400 == 0 else year % 4 == 0

abbrev pub days_in_month : ℕ → ℕ → ℕ
days_in_month year month =
    if month == 2 then (if is_leap year then 29 else 28)
    else (if (month == 4 || month == 6) || (month == 9 || month == 11) then 30 else 31)

-- the day is one of its month, and the second one of its day
pub record IsMoment (m : Moment) : Type 0 where
  pub month_exists : (1 ≤ m.month) × (m.month ≤ 12)
  pub day_exists : (1 ≤ m.day) × (m.day ≤ days_in_month m.year m.month)
  pub hour_exists : m.hour ≤ 23
  pub minute_exists : m.minute ≤ 59
  pub second_exists : m.second ≤ 59
