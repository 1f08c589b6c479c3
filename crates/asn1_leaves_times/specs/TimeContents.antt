-- The contents of UTCTime and GeneralizedTime in DER (X.690, 11.7 and 11.8; RFC 5280, 4.1.2.5): two decimal digits
-- for each number, four for the year of GeneralizedTime, and then Z.
use Rattle.std.specs.Prelude.{ℕ, ◌+◌, ◌/◌, ◌%◌, ◌≤◌, List, [], ◌∷◌, ◌++◌}
use Rattle.asn1_leaves_times.specs.Calendar.{IsMoment}
use Rattle.asn1_leaves_times.specs.declared.calendar.Moment.{Moment}

-- a moment of the years 1950 to 2049, whose last two digits tell them apart
pub record IsUtc (m : Moment) : Type 0 where
  pub real : IsMoment m
  pub first_year : 1950 ≤ m.year
  pub last_year : m.year ≤ 2049

-- a moment of a year that four digits write
pub record IsGeneralized (m : Moment) : Type 0 where
  pub real : IsMoment m
  pub last_year : m.year ≤ 9999

abbrev pub two_digits : ℕ → List ℕ
two_digits n = (48 + n / 10) ∷ (48 + n % 10) ∷ []

-- MMDDHHMMSSZ
abbrev pub contents_after_year : Moment → List ℕ
contents_after_year m =
    two_digits m.month ++ two_digits m.day ++ two_digits m.hour ++ two_digits m.minute ++ two_digits m.second ++ (90 ∷ [])

-- YYMMDDHHMMSSZ
abbrev pub utc_contents : Moment → List ℕ
utc_contents m = two_digits (m.year % 100) ++ contents_after_year m

-- YYYYMMDDHHMMSSZ
abbrev pub generalized_contents : Moment → List ℕ
generalized_contents m = two_digits (m.year / 100) ++ two_digits (m.year % 100) ++ contents_after_year m
