-- A moment that is written so has each number where it was looked for.
use Rattle.asn1_leaves_times.specs.laws.CalendarLaws.{month_lt, day_lt, hour_lt, minute_lt, second_lt}
use Rattle.asn1_leaves_times.proofs.Numbers.{same_rest}
use Rattle.asn1_leaves_times.proofs.after_year.read_after_year.Goals as goal

pub returns-in_err-month : goal.returns-in_err-month
returns-in_err-month c =
    rw c.from_residual.ensures (λ m real spelled. c.in_err-month.ensures m.month _ (month_lt m real) spelled)

pub returns-in_err-day : goal.returns-in_err-day
returns-in_err-day c =
    rw c.from_residual-in_err-day.ensures
    (λ m real spelled. let day = same_rest c.in_ok-month.ensures.1 spelled in c.in_err-day.ensures m.day _ (day_lt m real) day)

pub returns-in_err-hour : goal.returns-in_err-hour
returns-in_err-hour c =
    rw c.from_residual-in_err-hour.ensures
    (λ m real spelled. let day = same_rest c.in_ok-month.ensures.1 spelled in
    let hour = same_rest c.in_ok-day.ensures.1 day in
    c.in_err-hour.ensures m.hour _ (hour_lt m real) hour)

pub returns-in_err-minute : goal.returns-in_err-minute
returns-in_err-minute c =
    rw c.from_residual-in_err-minute.ensures
    (λ m real spelled. let day = same_rest c.in_ok-month.ensures.1 spelled in
    let hour = same_rest c.in_ok-day.ensures.1 day in
    let minute = same_rest c.in_ok-hour.ensures.1 hour in
    c.in_err-minute.ensures m.minute _ (minute_lt m real) minute)

pub returns-in_err-second : goal.returns-in_err-second
returns-in_err-second c =
    rw c.from_residual-in_err-second.ensures
    (λ m real spelled. let day = same_rest c.in_ok-month.ensures.1 spelled in
    let hour = same_rest c.in_ok-day.ensures.1 day in
    let minute = same_rest c.in_ok-hour.ensures.1 hour in
    let second = same_rest c.in_ok-minute.ensures.1 minute in
    c.in_err-second.ensures m.second _ (second_lt m real) second)
