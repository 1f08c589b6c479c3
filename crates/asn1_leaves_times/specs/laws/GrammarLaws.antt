-- The grammar of contents holds of what spells a time, and of nothing else.
use Rattle.std.proofs.Common.{◌≡◌, ℕ, zero, suc, ◌+◌, ◌-◌, ◌*◌, ◌/◌, ◌%◌, ◌<◌, ◌≤◌, List, [], ◌∷◌, ◌++◌, length, drop, get_or, slice_index, refl, sym, ap₂, ◌∙◌, subst, arith}
use Rattle.std.proofs.lemmas.List.{drop_all, drop_more}
use Rattle.std.proofs.lemmas.Bool.Decides.{nat_tests}
use Rattle.std.specs.Char.{IsAsciiDigit}
use Rattle.asn1_leaves_times.specs.Calendar.{IsMoment}
use Rattle.asn1_leaves_times.specs.laws.CalendarLaws.{month_lt, day_lt, hour_lt, minute_lt, second_lt}
use Rattle.asn1_leaves_times.specs.TimeContents.{two_digits, contents_after_year, utc_contents, generalized_contents, IsUtc, IsGeneralized}
use Rattle.asn1_leaves_times.specs.laws.TimeContentsLaws.{moment_same}
use Rattle.asn1_leaves_times.specs.Grammar.{IsDigitsAndZone, number_at, utc_year, moment_from, utc_moment, generalized_moment, IsUtcContents, IsGeneralizedContents}
use Rattle.asn1_leaves_times.specs.declared.calendar.Moment.{Moment}

-- so many digits begin the bytes
record BeginsWithDigits (count : ℕ) (contents : List ℕ) : Type 0 where
  digit : (k : ℕ) → k < count → IsAsciiDigit (slice_index contents k)

digit_of_more : (count n : ℕ) (contents : List ℕ) → n < 100 → BeginsWithDigits count contents → (k : ℕ) → k < count + 2 → IsAsciiDigit (slice_index (two_digits n ++ contents) k)
digit_of_more count n contents below digits zero h = (omega arith, omega arith)
digit_of_more count n contents below digits (suc zero) h = (omega arith, omega arith)
digit_of_more count n contents below digits (suc (suc k)) h = digits.digit k (omega arith)

two_digits_more : {count n : ℕ} {contents : List ℕ} → n < 100 → BeginsWithDigits count contents → BeginsWithDigits (count + 2) (two_digits n ++ contents)
two_digits_more {count} {n} {contents} below digits = record { digit = digit_of_more count n contents below digits }

no_digits : (contents : List ℕ) → BeginsWithDigits 0 contents
no_digits contents = record { digit = λ k h. absurd (omega arith) }

digits_after_year : (m : Moment) → IsMoment m → BeginsWithDigits 10 (contents_after_year m)
digits_after_year m real =
    two_digits_more (month_lt m real)
    (two_digits_more (day_lt m real)
    (two_digits_more (hour_lt m real) (two_digits_more (minute_lt m real) (two_digits_more (second_lt m real) (no_digits (90 ∷ []))))))

-- the number that was written is read
number_read : (n : ℕ) → 10 * ((48 + n / 10) - 48) + ((48 + n % 10) - 48) ≡ n
number_read n = omega arith

-- what was spelled is read
pub utc_moment-utc_contents : (m : Moment) → 1950 ≤ m.year → m.year ≤ 2049 → utc_moment (utc_contents m) ≡ m
utc_moment-utc_contents m first last =
    let year : utc_year (number_at (utc_contents m) 0) ≡ m.year = rw (number_read (m.year % 100)) (grind (arith, nat_tests)) in
    moment_same (utc_moment (utc_contents m)) m year (number_read m.month) (number_read m.day) (number_read m.hour) (number_read m.minute) (number_read m.second)

pub generalized_moment-generalized_contents : (m : Moment) → generalized_moment (generalized_contents m) ≡ m
generalized_moment-generalized_contents m =
    let year : 100 * number_at (generalized_contents m) 0 + number_at (generalized_contents m) 2 ≡ m.year = omega arith in
    moment_same (generalized_moment (generalized_contents m)) m year (number_read m.month) (number_read m.day) (number_read m.hour) (number_read m.minute) (number_read m.second)

utc_digits : (m : Moment) → IsMoment m → BeginsWithDigits 12 (utc_contents m)
utc_digits m real = let year : m.year % 100 < 100 = omega arith in two_digits_more year (digits_after_year m real)

generalized_digits : (m : Moment) → IsGeneralized m → BeginsWithDigits 14 (generalized_contents m)
generalized_digits m is =
    let century : m.year / 100 < 100 = omega (arith, is.last_year) in
    two_digits_more century (utc_digits m is.real)

-- what spells a time is in the grammar
pub utc_spelled : (m : Moment) → IsUtc m → IsUtcContents (utc_contents m)
utc_spelled m is =
    record {
      form = record { size = refl; digits = (utc_digits m is.real).digit; zone = refl };
      real = subst IsMoment (sym (utc_moment-utc_contents m is.first_year is.last_year)) is.real;
    }

pub generalized_spelled : (m : Moment) → IsGeneralized m → IsGeneralizedContents (generalized_contents m)
generalized_spelled m is =
    record {
      form = record { size = refl; digits = (generalized_digits m is).digit; zone = refl };
      real = subst IsMoment (sym (generalized_moment-generalized_contents m)) is.real;
    }

-- the two digits at k, and what follows them
digits_there : (contents : List ℕ) (k next : ℕ) → k + 2 ≡ next → next ≤ length contents → IsAsciiDigit (slice_index contents k) → IsAsciiDigit (slice_index contents (k + 1)) → drop k contents ≡ two_digits (number_at contents k) ++ drop next contents
digits_there contents k next is fits tens ones =
    let first : drop k contents ≡ get_or contents k 0 ∷ drop (k + 1) contents = drop_more contents k 0 (omega arith) in
    let second : drop (k + 1) contents ≡ get_or contents (k + 1) 0 ∷ drop (k + 1 + 1) contents = drop_more contents (k + 1) 0 (omega arith) in
    let after : k + 1 + 1 ≡ next = omega arith in
    let ten : get_or contents k 0 ≡ 48 + number_at contents k / 10 = omega (arith, tens, ones) in
    let one : get_or contents (k + 1) 0 ≡ 48 + number_at contents k % 10 = omega (arith, tens, ones) in
    cc

-- what follows the year
after_year_there : (contents : List ℕ) (year k : ℕ) → IsDigitsAndZone (k + 10) contents → drop k contents ≡ contents_after_year (moment_from year contents k)
after_year_there contents year k form =
    let size = form.size in
    let digit : (j : ℕ) → j < k + 10 → IsAsciiDigit (slice_index contents j) = form.digits in
    let month = digits_there contents k (k + 2) refl (omega arith) (digit k (omega arith)) (digit (k + 1) (omega arith)) in
    let day = digits_there contents (k + 2) (k + 4) (omega arith) (omega arith) (digit (k + 2) (omega arith)) (digit (k + 2 + 1) (omega arith)) in
    let hour = digits_there contents (k + 4) (k + 6) (omega arith) (omega arith) (digit (k + 4) (omega arith)) (digit (k + 4 + 1) (omega arith)) in
    let minute = digits_there contents (k + 6) (k + 8) (omega arith) (omega arith) (digit (k + 6) (omega arith)) (digit (k + 6 + 1) (omega arith)) in
    let second = digits_there contents (k + 8) (k + 10) (omega arith) (omega arith) (digit (k + 8) (omega arith)) (digit (k + 8 + 1) (omega arith)) in
    let zone : drop (k + 10) contents ≡ get_or contents (k + 10) 0 ∷ drop (k + 10 + 1) contents = drop_more contents (k + 10) 0 (omega arith) in
    let end : drop (k + 10 + 1) contents ≡ [] = drop_all (k + 10 + 1) contents (omega arith) in
    let z = form.zone in
    cc

-- two digits write a number below a hundred
number_lt : (contents : List ℕ) (k : ℕ) → IsAsciiDigit (slice_index contents k) → IsAsciiDigit (slice_index contents (k + 1)) → number_at contents k < 100
number_lt contents k tens ones = omega (arith, tens, ones)

-- the last two digits of a year, and the year
utc_year_is : (n : ℕ) → n < 100 → (1950 ≤ utc_year n) × (utc_year n ≤ 2049) × (n ≡ utc_year n % 100)
utc_year_is n h = (grind (arith, nat_tests), grind (arith, nat_tests), grind (arith, nat_tests))

-- what is in the grammar spells a time
pub IsUtc-utc_moment : (contents : List ℕ) → IsUtcContents contents → IsUtc (utc_moment contents)
IsUtc-utc_moment contents is =
    let digit : (j : ℕ) → j < 12 → IsAsciiDigit (slice_index contents j) = is.form.digits in
    let year = utc_year_is (number_at contents 0) (number_lt contents 0 (digit 0 (omega arith)) (digit 1 (omega arith))) in
    record { real = is.real; first_year = year.0; last_year = year.1 }

pub utc_contents-utc_moment : (contents : List ℕ) → IsUtcContents contents → contents ≡ utc_contents (utc_moment contents)
utc_contents-utc_moment contents is =
    let size = is.form.size in
    let digit : (j : ℕ) → j < 12 → IsAsciiDigit (slice_index contents j) = is.form.digits in
    let year = utc_year_is (number_at contents 0) (number_lt contents 0 (digit 0 (omega arith)) (digit 1 (omega arith))) in
    let first = digits_there contents 0 2 refl (omega arith) (digit 0 (omega arith)) (digit 1 (omega arith)) in
    first ∙ ap₂ (λ n l. two_digits n ++ l) year.2 (after_year_there contents (utc_year (number_at contents 0)) 2 is.form)

pub utc_read : (contents : List ℕ) → IsUtcContents contents → (m : Moment) × (contents ≡ utc_contents m) × IsUtc m
utc_read contents is = (utc_moment contents, utc_contents-utc_moment contents is, IsUtc-utc_moment contents is)

pub IsGeneralized-generalized_moment : (contents : List ℕ) → IsGeneralizedContents contents → IsGeneralized (generalized_moment contents)
IsGeneralized-generalized_moment contents is =
    let digit : (j : ℕ) → j < 14 → IsAsciiDigit (slice_index contents j) = is.form.digits in
    let century = number_lt contents 0 (digit 0 (omega arith)) (digit 1 (omega arith)) in
    let year = number_lt contents 2 (digit 2 (omega arith)) (digit 3 (omega arith)) in
    record { real = is.real; last_year = omega arith }

pub generalized_contents-generalized_moment : (contents : List ℕ) → IsGeneralizedContents contents → contents ≡ generalized_contents (generalized_moment contents)
generalized_contents-generalized_moment contents is =
    let size = is.form.size in
    let m = generalized_moment contents in
    let digit : (j : ℕ) → j < 14 → IsAsciiDigit (slice_index contents j) = is.form.digits in
    let below_century = number_lt contents 0 (digit 0 (omega arith)) (digit 1 (omega arith)) in
    let below_year = number_lt contents 2 (digit 2 (omega arith)) (digit 3 (omega arith)) in
    let century : number_at contents 0 ≡ m.year / 100 = omega arith in
    let year : number_at contents 2 ≡ m.year % 100 = omega arith in
    let first = digits_there contents 0 2 refl (omega arith) (digit 0 (omega arith)) (digit 1 (omega arith)) in
    let second = digits_there contents 2 4 refl (omega arith) (digit 2 (omega arith)) (digit 3 (omega arith)) in
    first ∙ ap₂ (λ n l. two_digits n ++ l) century (second ∙ ap₂ (λ n l. two_digits n ++ l) year (after_year_there contents m.year 4 is.form))

pub generalized_read : (contents : List ℕ) → IsGeneralizedContents contents → (m : Moment) × (contents ≡ generalized_contents m) × IsGeneralized m
generalized_read contents is = (generalized_moment contents, generalized_contents-generalized_moment contents is, IsGeneralized-generalized_moment contents is)
