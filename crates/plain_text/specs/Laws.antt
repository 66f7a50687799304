-- A moment that is written out reads as its own seconds, in each form that it may have.
use Rattle.std.specs.Prelude.{ℕ, ℤ, ◌≡◌, ◌+◌, ◌*◌, ◌/◌, ◌%◌, ◌<◌, ◌≤◌, pos, ◌+ℤ◌, ◌-ℤ◌, ◌*ℤ◌, List, [], ◌∷◌, ◌++◌, length, Some, IsTrue, ⊤}
use Rattle.std.specs.Char.{is_ascii_digit}
use Rattle.std.specs.List.{list_all}
use Rattle.jiff_core.specs.Calendar.{IsCivilDate, days_from_civil}
use Rattle.plain_text.specs.Moments.{moment}

-- a number below 100 in two digits
abbrev pub two_digits : ℕ → List ℕ
two_digits n = (48 + n / 10) ∷ (48 + n % 10) ∷ []

-- `YYYY-MM-DD`
abbrev pub date_text : ℕ → ℕ → ℕ → List ℕ
date_text year month day = two_digits (year / 100) ++ two_digits (year % 100) ++ 45 ∷ two_digits month ++ 45 ∷ two_digits day

-- `HH:MM:SS`
abbrev pub clock_text : ℕ → ℕ → ℕ → List ℕ
clock_text hour minute second = two_digits hour ++ 58 ∷ two_digits minute ++ 58 ∷ two_digits second

-- a date and a clock, with a `T` between them, are that many seconds from 1970
abbrev pub WrittenMomentReadsBack : Type 0
WrittenMomentReadsBack =
    (year month day hour minute second : ℕ) → IsCivilDate (pos year) month day → hour < 24 → minute < 60 → second < 60
    → moment (date_text year month day ++ 84 ∷ clock_text hour minute second)
    ≡ Some (days_from_civil (pos year) month day *ℤ pos 86400 +ℤ pos (3600 * hour + 60 * minute + second))

-- ---- the other forms

-- a day and a time of the day that there are
pub record IsTime (year month day hour minute second : ℕ) : Type 0 where
  pub civil : IsCivilDate (pos year) month day
  pub hours : hour < 24
  pub minutes : minute < 60
  pub seconds : second < 60

-- nothing, or `.` and 1 to 9 digits
abbrev pub IsFraction : List ℕ → Type 0
IsFraction [] = ⊤
IsFraction (x ∷ digits) = (x ≡ 46) × (1 ≤ length digits) × (length digits ≤ 9) × IsTrue (list_all is_ascii_digit digits)

-- a date and a clock, with a `T` between them, and what follows
abbrev pub time_text : ℕ → ℕ → ℕ → ℕ → ℕ → ℕ → List ℕ → List ℕ
time_text year month day hour minute second rest = date_text year month day ++ 84 ∷ clock_text hour minute second ++ rest

-- `HH:MM`
abbrev pub offset_text : ℕ → ℕ → List ℕ
offset_text hour minute = two_digits hour ++ 58 ∷ two_digits minute

abbrev pub day_start : ℕ → ℕ → ℕ → ℤ
day_start year month day = days_from_civil (pos year) month day *ℤ pos 86400

abbrev pub seconds_in : ℕ → ℕ → ℕ → ℕ
seconds_in hour minute second = 3600 * hour + 60 * minute + second

-- a day alone is its midnight in UTC
abbrev pub DayReadsBack : Type 0
DayReadsBack = (year month day : ℕ) → IsCivilDate (pos year) month day → moment (date_text year month day) ≡ Some (day_start year month day)

-- a time without an offset is in UTC, and its fraction is dropped
abbrev pub PlainTimeReadsBack : Type 0
PlainTimeReadsBack =
    (year month day hour minute second : ℕ) (fraction : List ℕ) → IsTime year month day hour minute second → IsFraction fraction
    → moment (time_text year month day hour minute second fraction) ≡ Some (day_start year month day +ℤ pos (seconds_in hour minute second))

-- `Z` is UTC
abbrev pub UtcTimeReadsBack : Type 0
UtcTimeReadsBack =
    (year month day hour minute second : ℕ) (fraction : List ℕ) → IsTime year month day hour minute second → IsFraction fraction
    → moment (time_text year month day hour minute second (fraction ++ 90 ∷ [])) ≡ Some (day_start year month day +ℤ pos (seconds_in hour minute second))

-- a fraction changes nothing
abbrev pub FractionIsDropped : Type 0
FractionIsDropped =
    (year month day hour minute second : ℕ) (fraction : List ℕ) → IsTime year month day hour minute second → IsFraction fraction
    → moment (time_text year month day hour minute second fraction) ≡ moment (time_text year month day hour minute second [])

-- a clock that is ahead of UTC, by `+HH:MM`, shows more than UTC does
abbrev pub AheadReadsBack : Type 0
AheadReadsBack =
    (year month day hour minute second : ℕ) (fraction : List ℕ) (hours minutes : ℕ) → IsTime year month day hour minute second → IsFraction fraction → hours < 24 → minutes < 60
    → moment (time_text year month day hour minute second (fraction ++ 43 ∷ offset_text hours minutes))
    ≡ Some (day_start year month day +ℤ (pos (seconds_in hour minute second) -ℤ pos (3600 * hours + 60 * minutes)))

-- a clock that is behind UTC, by `-HH:MM`, shows less
abbrev pub BehindReadsBack : Type 0
BehindReadsBack =
    (year month day hour minute second : ℕ) (fraction : List ℕ) (hours minutes : ℕ) → IsTime year month day hour minute second → IsFraction fraction → hours < 24 → minutes < 60
    → moment (time_text year month day hour minute second (fraction ++ 45 ∷ offset_text hours minutes))
    ≡ Some (day_start year month day +ℤ pos (seconds_in hour minute second + (3600 * hours + 60 * minutes)))
