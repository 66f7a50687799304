-- The kept value: for each name the moment of its latest event, and its lists of counts at that moment, newest first. What an
-- event makes of it.
use Rattle.std.specs.Prelude.{ℕ, List, [], ◌∷◌, Option, Some, None, bytes_eq, if◌then◌else◌, max, replicate}
use Rattle.std.specs.Ordering.{match_ordering}
use Rattle.event_counts.specs.declared.interval.Interval.TheVariants.{Hours, Days, Weeks}
use Rattle.event_counts.specs.declared.name_counts.NameCounts.{NameCounts}
use Rattle.event_counts.specs.Intervals.{entry_count, turns}
use Rattle.event_counts.specs.Lists.{turned, raised}
use Rattle.event_counts.specs.Sound.{name_cmp}

-- the greatest of a moment and the latest moments
abbrev pub moment_at : ℕ → List NameCounts → ℕ
moment_at now [] = now
moment_at now (n ∷ ns) = moment_at (max now n.latest) ns

-- the counts of a name at a later moment
abbrev pub at_moment : ℕ → NameCounts → NameCounts
at_moment moment n = record {
  name = n.name;
  latest = moment;
  hours = turned (turns Hours n.latest moment) n.hours;
  days = turned (turns Days n.latest moment) n.days;
  weeks = turned (turns Weeks n.latest moment) n.weeks;
}

-- the counts of a name without events
abbrev pub no_counts : List ℕ → ℕ → NameCounts
no_counts name moment = record {
  name = name;
  latest = moment;
  hours = replicate (entry_count Hours) 0;
  days = replicate (entry_count Days) 0;
  weeks = replicate (entry_count Weeks) 0;
}

-- the counts with more in the present hour, day and week
abbrev pub with_more : ℕ → NameCounts → NameCounts
with_more count n = record {
  name = n.name;
  latest = n.latest;
  hours = raised count n.hours;
  days = raised count n.days;
  weeks = raised count n.weeks;
}

-- what is kept of a name
abbrev pub found : List ℕ → List NameCounts → Option NameCounts
found name [] = None
found name (n ∷ ns) = if bytes_eq n.name name then Some n else found name ns

-- what is kept of a name, at a later moment
abbrev pub found_at : ℕ → List ℕ → Option NameCounts → NameCounts
found_at moment name None = no_counts name moment
found_at moment name (Some n) = at_moment moment n

-- the counts with those of one name, at its place in the order of the names
abbrev pub with_name : NameCounts → List NameCounts → List NameCounts
with_name n [] = n ∷ []
with_name n (o ∷ os) = match_ordering (name_cmp n.name o.name) (n ∷ o ∷ os) (n ∷ os) (o ∷ with_name n os)

-- the counts after an event of this moment
abbrev pub counted_at : ℕ → List ℕ → ℕ → List NameCounts → List NameCounts
counted_at moment name count ns = with_name (with_more count (found_at moment name (found name ns))) ns

-- the counts after an event, whose moment is the greatest of `now` and the latest moments
abbrev pub counted_in : List ℕ → ℕ → ℕ → List NameCounts → List NameCounts
counted_in name count now ns = counted_at (moment_at now ns) name count ns
