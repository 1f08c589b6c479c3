-- Bytes that spell no number, and no time.
use Rattle.std.specs.Prelude.{◌≡◌, ℕ, ◌<◌, List, ◌++◌}
use Rattle.asn1_leaves_times.specs.Calendar.{IsMoment}
use Rattle.asn1_leaves_times.specs.TimeContents.{two_digits, contents_after_year, IsUtc, utc_contents, IsGeneralized, generalized_contents}
use Rattle.asn1_leaves_times.specs.declared.calendar.Moment.{Moment}

-- no two digits begin the bytes
abbrev pub HasNoNumber : List ℕ → Type 0
HasNoNumber contents = (n : ℕ) (rest : List ℕ) → n < 100 → contents ≡ two_digits n ++ rest → ⊥

-- the bytes are what follows the year of no moment
abbrev pub SpellsNoMoment : List ℕ → Type 0
SpellsNoMoment contents = (m : Moment) → IsMoment m → contents ≡ contents_after_year m → ⊥

-- the contents of no UTCTime
abbrev pub SpellsNoUtc : List ℕ → Type 0
SpellsNoUtc contents = (m : Moment) → IsUtc m → contents ≡ utc_contents m → ⊥

-- the contents of no GeneralizedTime
abbrev pub SpellsNoGeneralized : List ℕ → Type 0
SpellsNoGeneralized contents = (m : Moment) → IsGeneralized m → contents ≡ generalized_contents m → ⊥
