-- A moment that is written out reads back, in each form.
use Rattle.std.proofs.Common.{◌≡◌, ℕ, suc, zero, ◌+◌, ◌-◌, ◌*◌, ◌<◌, ◌≤◌, true, false, List, [], ◌∷◌, ◌++◌, length, drop, Option, Some, None, refl, sym, ap, ◌∙◌, arith, le-leb, IsTrue, append-nil}
use Rattle.std.specs.Prelude.{ℤ, pos, negsuc, neg_ℤ, ◌+ℤ◌, ◌-ℤ◌, ◌*ℤ◌, ◌==◌, not, option_map, option_and_then, if◌then◌else◌, nat_le, ⊤}
use Rattle.std.specs.Char.{is_ascii_digit}
use Rattle.std.specs.List.{list_all}
use Rattle.std.proofs.lemmas.Int.{ints}
use Rattle.std.proofs.lemmas.Bool.{and_parts}
use Rattle.jiff_core.specs.Calendar.{IsCivilDate, days_from_civil}
use Rattle.plain_text.specs.Moments.{two, then_two, date, hours_and_minutes, clock, digits_in_front, without_fraction, at_end, offset, time, moment}
use Rattle.plain_text.specs.Laws.{two_digits, date_text, clock_text, IsTime, IsFraction, time_text, offset_text, day_start, seconds_in, DayReadsBack, PlainTimeReadsBack, UtcTimeReadsBack, FractionIsDropped, AheadReadsBack, BehindReadsBack}
use Rattle.plain_text.proofs.Written.{two-two_digits, date-written, hours_and_minutes-written}
use Rattle.plain_text.proofs.Days.{less_zero}

clock_then : (hour minute second : ℕ) (rest : List ℕ) → hour < 24 → minute < 60 → second < 60 → clock (clock_text hour minute second ++ rest) ≡ Some (seconds_in hour minute second, rest)
clock_then hour minute second rest less few last =
    ap (option_and_then (λ m. option_and_then (λ s. if nat_le s.0 59 then Some (m.0 + s.0, s.1) else None) (then_two 58 m.1))) (hours_and_minutes-written hour minute (58 ∷ two_digits second ++ rest) less few)
    ∙ ap (option_and_then (λ s. if nat_le s.0 59 then Some (3600 * hour + 60 * minute + s.0, s.1) else None)) (two-two_digits second rest (omega arith))
    ∙ (rw (le-leb second 59 (omega arith)))

-- what may follow a fraction: nothing, or a byte that is neither a digit nor `.`
abbrev Ends : List ℕ → Type 0
Ends [] = ⊤
Ends (x ∷ zone) = (is_ascii_digit x ≡ false) × ((x == 46) ≡ false)

digits_then : (ds zone : List ℕ) → list_all is_ascii_digit ds ≡ true → Ends zone → digits_in_front (ds ++ zone) ≡ length ds
digits_then [] [] all ends = refl
digits_then [] (x ∷ zone) all ends = rw ends.0 refl
digits_then (x ∷ ds) zone all ends =
    let parts = and_parts (is_ascii_digit x) (list_all is_ascii_digit ds) all in
    rw parts.0 (omega (arith, digits_then ds zone parts.1 ends))

dropped : (ds zone : List ℕ) → drop (length ds) (ds ++ zone) ≡ zone
dropped [] zone = refl
dropped (x ∷ ds) zone = dropped ds zone

no_fraction : (zone : List ℕ) → Ends zone → without_fraction zone ≡ Some zone
no_fraction [] ends = refl
no_fraction (x ∷ zone) ends = rw ends.1 refl

fraction_then : (fraction zone : List ℕ) → IsFraction fraction → Ends zone → without_fraction (fraction ++ zone) ≡ Some zone
fraction_then [] zone is ends = no_fraction zone ends
fraction_then (x ∷ ds) zone is ends =
    rw (is.0, digits_then ds zone is.3 ends, le-leb 1 (length ds) is.1, le-leb (length ds) 9 is.2) (ap Some (dropped ds zone))

time_then : (hour minute second : ℕ) (fraction zone : List ℕ) (ahead : ℤ) → hour < 24 → minute < 60 → second < 60 → IsFraction fraction → Ends zone → offset zone ≡ Some ahead
    → time (84 ∷ clock_text hour minute second ++ (fraction ++ zone)) ≡ Some (pos (seconds_in hour minute second) -ℤ ahead)
time_then hour minute second fraction zone ahead less few last is ends zoned =
    ap (option_and_then (λ c. option_and_then (λ z. option_map (λ a. pos c.0 -ℤ a) (offset z)) (without_fraction c.1))) (clock_then hour minute second (fraction ++ zone) less few last)
    ∙ ap (option_and_then (λ z. option_map (λ a. pos (seconds_in hour minute second) -ℤ a) (offset z))) (fraction_then fraction zone is ends)
    ∙ ap (option_map (λ a. pos (seconds_in hour minute second) -ℤ a)) zoned

moment_then : (year month day hour minute second : ℕ) (fraction zone : List ℕ) (ahead : ℤ) → IsTime year month day hour minute second → IsFraction fraction → Ends zone → offset zone ≡ Some ahead
    → moment (time_text year month day hour minute second (fraction ++ zone)) ≡ Some (day_start year month day +ℤ (pos (seconds_in hour minute second) -ℤ ahead))
moment_then year month day hour minute second fraction zone ahead there is ends zoned =
    ap (option_and_then (λ d. option_map (λ t. d.0 +ℤ t) (time d.1))) (date-written year month day (84 ∷ clock_text hour minute second ++ (fraction ++ zone)) there.civil)
    ∙ ap (option_map (λ t. day_start year month day +ℤ t)) (time_then hour minute second fraction zone ahead there.hours there.minutes there.seconds is ends zoned)

plus_zero : (d : ℤ) → d +ℤ pos 0 ≡ d
plus_zero (pos n) = omega (arith, ints)
plus_zero (negsuc n) = omega (arith, ints)

pub day_reads_back : DayReadsBack
day_reads_back year month day valid =
    ap (λ text. moment text) (sym (append-nil (date_text year month day)))
    ∙ ap (option_and_then (λ d. option_map (λ t. d.0 +ℤ t) (time d.1))) (date-written year month day [] valid)
    ∙ ap Some (plus_zero (day_start year month day))

pub utc_time_reads_back : UtcTimeReadsBack
utc_time_reads_back year month day hour minute second fraction there is =
    moment_then year month day hour minute second fraction (90 ∷ []) (pos 0) there is (refl, refl) refl
    ∙ ap (λ t. Some (day_start year month day +ℤ t)) (less_zero (pos (seconds_in hour minute second)))

pub plain_time_reads_back : PlainTimeReadsBack
plain_time_reads_back year month day hour minute second fraction there is =
    ap (λ f. moment (time_text year month day hour minute second f)) (sym (append-nil fraction))
    ∙ moment_then year month day hour minute second fraction [] (pos 0) there is tt refl
    ∙ ap (λ t. Some (day_start year month day +ℤ t)) (less_zero (pos (seconds_in hour minute second)))

pub fraction_is_dropped : FractionIsDropped
fraction_is_dropped year month day hour minute second fraction there is =
    plain_time_reads_back year month day hour minute second fraction there is ∙ sym (plain_time_reads_back year month day hour minute second [] there tt)

hours_alone : (hours minutes : ℕ) → hours < 24 → minutes < 60 → hours_and_minutes (offset_text hours minutes) ≡ Some (3600 * hours + 60 * minutes, [])
hours_alone hours minutes less few = hours_and_minutes-written hours minutes [] less few

ahead_offset : (hours minutes : ℕ) → hours < 24 → minutes < 60 → offset (43 ∷ offset_text hours minutes) ≡ Some (pos (3600 * hours + 60 * minutes))
ahead_offset hours minutes less few = ap (option_and_then (λ m. at_end (pos m.0) m.1)) (hours_alone hours minutes less few)

behind_offset : (hours minutes : ℕ) → hours < 24 → minutes < 60 → offset (45 ∷ offset_text hours minutes) ≡ Some (neg_ℤ (pos (3600 * hours + 60 * minutes)))
behind_offset hours minutes less few = ap (option_and_then (λ m. at_end (neg_ℤ (pos m.0)) m.1)) (hours_alone hours minutes less few)

less_below : (n z : ℕ) → pos n -ℤ neg_ℤ (pos z) ≡ pos (n + z)
less_below n zero = omega (arith, ints)
less_below n (suc z) = omega (arith, ints)

pub ahead_reads_back : AheadReadsBack
ahead_reads_back year month day hour minute second fraction hours minutes there is less few =
    moment_then year month day hour minute second fraction (43 ∷ offset_text hours minutes) _ there is (refl, refl) (ahead_offset hours minutes less few)

pub behind_reads_back : BehindReadsBack
behind_reads_back year month day hour minute second fraction hours minutes there is less few =
    moment_then year month day hour minute second fraction (45 ∷ offset_text hours minutes) _ there is (refl, refl) (behind_offset hours minutes less few)
    ∙ ap (λ t. Some (day_start year month day +ℤ t)) (less_below (seconds_in hour minute second) (3600 * hours + 60 * minutes))
