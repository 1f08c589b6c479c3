-- The contents of UTCTime and GeneralizedTime in DER, as a grammar over bytes alone (X.690, 11.7 and 11.8; RFC 5280,
-- 4.1.2.5).
use Rattle.std.specs.Prelude.{◌≡◌, ℕ, ◌+◌, ◌-◌, ◌*◌, ◌<◌, List, length, slice_index, nat_lt, if◌then◌else◌}
use Rattle.std.specs.Char.{IsAsciiDigit}
use Rattle.asn1_leaves_times.specs.Calendar.{IsMoment}
use Rattle.asn1_leaves_times.specs.declared.calendar.Moment.{Moment}

-- so many decimal digits, and then Z
pub record IsDigitsAndZone (count : ℕ) (contents : List ℕ) : Type 0 where
  pub size : length contents ≡ count + 1
  pub digits : (k : ℕ) → k < count → IsAsciiDigit (slice_index contents k)
  pub zone : slice_index contents count ≡ 90

-- the number that the two digits from there on write
abbrev pub number_at : List ℕ → ℕ → ℕ
number_at contents k = 10 * (slice_index contents k - 48) + (slice_index contents (k + 1) - 48)

-- 50 to 99 are 1950 to 1999, and 00 to 49 are 2000 to 2049
abbrev pub utc_year : ℕ → ℕ
utc_year n = if nat_lt n 50 then 2000 + n else 1900 + n

-- the moment of that year whose digits, from those of the month on, begin at k
abbrev pub moment_from : ℕ → List ℕ → ℕ → Moment
moment_from year contents k =
    record {
      year = year;
      month = number_at contents k;
      day = number_at contents (k + 2);
      hour = number_at contents (k + 4);
      minute = number_at contents (k + 6);
      second = number_at contents (k + 8);
    }

abbrev pub utc_moment : List ℕ → Moment
utc_moment contents = moment_from (utc_year (number_at contents 0)) contents 2

abbrev pub generalized_moment : List ℕ → Moment
generalized_moment contents = moment_from (100 * number_at contents 0 + number_at contents 2) contents 4

-- the contents of UTCTime in DER
pub record IsUtcContents (contents : List ℕ) : Type 0 where
  pub form : IsDigitsAndZone 12 contents
  pub real : IsMoment (utc_moment contents)

-- the contents of GeneralizedTime in DER
pub record IsGeneralizedContents (contents : List ℕ) : Type 0 where
  pub form : IsDigitsAndZone 14 contents
  pub real : IsMoment (generalized_moment contents)
