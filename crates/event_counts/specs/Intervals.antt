-- The intervals over which events are counted, and how far a list turns between two moments.
use Rattle.std.specs.Prelude.{ℕ, ◌-◌, ◌/◌}
use Rattle.event_counts.specs.declared.interval.Interval.{Interval}
use Rattle.event_counts.specs.declared.interval.Interval.TheVariants.{Hours, Days, Weeks}

abbrev pub seconds : Interval → ℕ
seconds Hours = 3600
seconds Days = 86400
seconds Weeks = 604800

-- how many intervals are kept, the present one among them
abbrev pub entry_count : Interval → ℕ
entry_count Hours = 72
entry_count Days = 56
entry_count Weeks = 52

-- how many intervals begin after the first moment and not after the second
unfoldable pub turns : Interval → ℕ → ℕ → ℕ
turns i first second = second / seconds i - first / seconds i
