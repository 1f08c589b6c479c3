-- No contents spell two times.
use Rattle.std.proofs.Common.{◌≡◌, ℕ, ◌+◌, ◌/◌, ◌%◌, ◌≤◌, List, ◌++◌, refl, arith}
use Rattle.asn1_leaves_times.specs.TimeContents.{two_digits, contents_after_year, utc_contents, generalized_contents, IsUtc}
use Rattle.asn1_leaves_times.specs.declared.calendar.Moment.{Moment}

-- two digits write one number
pub two_digits_cut : (a b : ℕ) (x y : List ℕ) → two_digits a ++ x ≡ two_digits b ++ y → (a ≡ b) × (x ≡ y)
two_digits_cut a b x y e =
    let tens : 48 + a / 10 ≡ 48 + b / 10 = cc in
    let ones : 48 + a % 10 ≡ 48 + b % 10 = cc in
    let rest : x ≡ y = cc in
    (omega arith, rest)

moment_at : ℕ → ℕ → ℕ → ℕ → ℕ → ℕ → Moment
moment_at year month day hour minute second =
    record { year = year; month = month; day = day; hour = hour; minute = minute; second = second }

moment_is : (m : Moment) → m ≡ moment_at m.year m.month m.day m.hour m.minute m.second
unfolding moment_at
moment_is m = refl

-- two moments with the same numbers are one
pub moment_same : (u v : Moment) → u.year ≡ v.year → u.month ≡ v.month → u.day ≡ v.day → u.hour ≡ v.hour → u.minute ≡ v.minute → u.second ≡ v.second → u ≡ v
moment_same u v year month day hour minute second = cc (moment_is u, moment_is v)

-- two moments of one year with the same contents after it are one moment
pub after_year_same : (u v : Moment) → u.year ≡ v.year → contents_after_year u ≡ contents_after_year v → u ≡ v
after_year_same u v year e =
    let month = two_digits_cut u.month v.month _ _ e in
    let day = two_digits_cut u.day v.day _ _ month.1 in
    let hour = two_digits_cut u.hour v.hour _ _ day.1 in
    let minute = two_digits_cut u.minute v.minute _ _ hour.1 in
    let second = two_digits_cut u.second v.second _ _ minute.1 in
    moment_same u v year month.0 day.0 hour.0 minute.0 second.0

-- the last two digits tell the years 1950 to 2049 apart
pub utc_contents_same_years : (u v : Moment) → 1950 ≤ u.year → u.year ≤ 2049 → 1950 ≤ v.year → v.year ≤ 2049 → utc_contents u ≡ utc_contents v → u ≡ v
utc_contents_same_years u v a b c d e =
    let year = two_digits_cut (u.year % 100) (v.year % 100) _ _ e in
    let same : u.year ≡ v.year = omega (arith, year.0) in
    after_year_same u v same year.1

-- no contents of UTCTime spell two times
pub utc_contents_same : (u v : Moment) → IsUtc u → IsUtc v → utc_contents u ≡ utc_contents v → u ≡ v
utc_contents_same u v a b e = utc_contents_same_years u v a.first_year a.last_year b.first_year b.last_year e

-- no contents of GeneralizedTime spell two times
pub generalized_contents_same : (u v : Moment) → generalized_contents u ≡ generalized_contents v → u ≡ v
generalized_contents_same u v e =
    let century = two_digits_cut (u.year / 100) (v.year / 100) _ _ e in
    let year = two_digits_cut (u.year % 100) (v.year % 100) _ _ century.1 in
    let same : u.year ≡ v.year = omega (arith, century.0, year.0) in
    after_year_same u v same year.1
