-- A moment that is written out reads back.
use Rattle.std.proofs.Common.{◌≡◌, ℕ, ◌+◌, ◌-◌, ◌*◌, ◌/◌, ◌%◌, ◌<◌, true, List, [], ◌∷◌, ◌++◌, Some, None, ap, ◌∙◌, arith, le-leb}
use Rattle.std.specs.Prelude.{ℤ, pos, ◌+ℤ◌, ◌*ℤ◌, option_map, option_and_then, if◌then◌else◌, nat_le, ◌&&◌}
use Rattle.std.specs.Char.{is_ascii_digit}
use Rattle.std.proofs.lemmas.Bool.Decides.{nat_tests}
use Rattle.jiff_core.specs.Calendar.{IsCivilDate, days_from_civil, days_in_month}
use Rattle.jiff_core.proofs.SignedLemmas.{signed_arith}
use Rattle.plain_text.specs.Moments.{two, then_two, day_seconds, month_and_day, date, hours_and_minutes, clock, time, moment}
use Rattle.plain_text.specs.Laws.{two_digits, date_text, clock_text}
use Rattle.plain_text.proofs.Days.{day_seconds-civil, less_zero}

is_digit : (n : ℕ) → n < 10 → is_ascii_digit (48 + n) ≡ true
is_digit n h = grind (arith, nat_tests)

two_of : (a b : ℕ) (rest : List ℕ) → a < 10 → b < 10 → two ((48 + a) ∷ (48 + b) ∷ rest) ≡ Some (10 * a + b, rest)
two_of a b rest ha hb =
    let first : (48 + a) - 48 ≡ a = omega arith in
    let second : (48 + b) - 48 ≡ b = omega arith in
    rw (is_digit a ha, is_digit b hb, first, second)

pub two-two_digits : (n : ℕ) (rest : List ℕ) → n < 100 → two (two_digits n ++ rest) ≡ Some (n, rest)
two-two_digits n rest h =
    let whole : 10 * (n / 10) + n % 10 ≡ n = omega arith in
    two_of (n / 10) (n % 10) rest (omega arith) (omega arith) ∙ ap (λ k. Some (k, rest)) whole

days_in_month-small : (year : ℤ) (month : ℕ) → days_in_month year month < 100
days_in_month-small year month = grind arith

month_and_day-written : (year month day : ℕ) (rest : List ℕ) → IsCivilDate (pos year) month day
    → month_and_day year (45 ∷ two_digits month ++ 45 ∷ two_digits day ++ rest) ≡ Some (days_from_civil (pos year) month day *ℤ pos 86400, rest)
month_and_day-written year month day rest valid =
    ap (option_and_then (λ m. option_and_then (λ d. option_map (λ s. (s, d.1)) (day_seconds year m.0 d.0)) (then_two 45 m.1))) (two-two_digits month (45 ∷ two_digits day ++ rest) (omega (arith, valid.1.1)))
    ∙ ap (option_and_then (λ d. option_map (λ s. (s, d.1)) (day_seconds year month d.0))) (two-two_digits day rest (omega (arith, valid.2.1, days_in_month-small (pos year) month)))
    ∙ ap (option_map (λ s. (s, rest))) (day_seconds-civil year month day valid)

pub date-written : (year month day : ℕ) (rest : List ℕ) → IsCivilDate (pos year) month day → date (date_text year month day ++ rest) ≡ Some (days_from_civil (pos year) month day *ℤ pos 86400, rest)
date-written year month day rest valid =
    let later = 45 ∷ two_digits month ++ 45 ∷ two_digits day ++ rest in
    let below : year < 10000 = omega (arith, signed_arith, valid.0.1) in
    let whole : 100 * (year / 100) + year % 100 ≡ year = omega arith in
    ap (option_and_then (λ c. option_and_then (λ y. month_and_day (100 * c.0 + y.0) y.1) (two c.1))) (two-two_digits (year / 100) (two_digits (year % 100) ++ later) (omega arith))
    ∙ ap (option_and_then (λ y. month_and_day (100 * (year / 100) + y.0) y.1)) (two-two_digits (year % 100) later (omega arith)) ∙ ap (λ y. month_and_day y later) whole ∙ month_and_day-written year month day rest valid

pub hours_and_minutes-written : (hour minute : ℕ) (rest : List ℕ) → hour < 24 → minute < 60 → hours_and_minutes (two_digits hour ++ 58 ∷ two_digits minute ++ rest) ≡ Some (3600 * hour + 60 * minute, rest)
hours_and_minutes-written hour minute rest less few =
    ap (option_and_then (λ h. option_and_then (λ m. if nat_le h.0 23 && nat_le m.0 59 then Some (3600 * h.0 + 60 * m.0, m.1) else None) (then_two 58 h.1))) (two-two_digits hour (58 ∷ two_digits minute ++ rest) (omega arith))
    ∙ ap (option_and_then (λ m. if nat_le hour 23 && nat_le m.0 59 then Some (3600 * hour + 60 * m.0, m.1) else None)) (two-two_digits minute rest (omega arith))
    ∙ (rw (le-leb hour 23 (omega arith), le-leb minute 59 (omega arith)))

clock-written : (hour minute second : ℕ) → hour < 24 → minute < 60 → second < 60 → clock (clock_text hour minute second) ≡ Some (3600 * hour + 60 * minute + second, [])
clock-written hour minute second less few last =
    ap (option_and_then (λ m. option_and_then (λ s. if nat_le s.0 59 then Some (m.0 + s.0, s.1) else None) (then_two 58 m.1))) (hours_and_minutes-written hour minute (58 ∷ two_digits second) less few)
    ∙ ap (option_and_then (λ s. if nat_le s.0 59 then Some (3600 * hour + 60 * minute + s.0, s.1) else None)) (two-two_digits second [] (omega arith))
    ∙ (rw (le-leb second 59 (omega arith)))

time-written : (hour minute second : ℕ) → hour < 24 → minute < 60 → second < 60 → time (84 ∷ clock_text hour minute second) ≡ Some (pos (3600 * hour + 60 * minute + second))
time-written hour minute second less few last =
    rw (clock-written hour minute second less few last) (ap Some (less_zero (pos (3600 * hour + 60 * minute + second))))

pub moment-written : (year month day hour minute second : ℕ) → IsCivilDate (pos year) month day → hour < 24 → minute < 60 → second < 60
    → moment (date_text year month day ++ 84 ∷ clock_text hour minute second)
    ≡ Some (days_from_civil (pos year) month day *ℤ pos 86400 +ℤ pos (3600 * hour + 60 * minute + second))
moment-written year month day hour minute second valid less few last =
    ap (option_and_then (λ d. option_map (λ t. d.0 +ℤ t) (time d.1))) (date-written year month day (84 ∷ clock_text hour minute second) valid)
    ∙ ap (option_map (λ t. days_from_civil (pos year) month day *ℤ pos 86400 +ℤ t)) (time-written hour minute second less few last)
