-- Events in the order in which they were counted, and what a moment sees of them.
use Rattle.std.specs.Prelude.{ℕ, ◌==◌, ◌&&◌, Bool, List, [], ◌∷◌, Option, Some, None, bytes_eq, filter, if◌then◌else◌, map, max, sum_by}
use Rattle.std.specs.List.{list_any, range_with_len}
use Rattle.json_tree.specs.Json.{Json}
use Rattle.event_counts.specs.declared.interval.Interval.{Interval}
use Rattle.event_counts.specs.declared.interval.Interval.TheVariants.{Hours, Days, Weeks}
use Rattle.event_counts.specs.declared.name_counts.NameCounts.{NameCounts}
use Rattle.event_counts.specs.Intervals.{entry_count, turns}
use Rattle.event_counts.specs.Kept.{counted_in}
use Rattle.event_counts.specs.Lists.{capped}
use Rattle.event_counts.specs.View.{lists_json}

-- something that a user did so many times, and a moment
pub record Event : Type 0 where
  pub name : List ℕ
  pub count : ℕ
  pub moment : ℕ

-- the counts after events, of which each has the moment at which it was handed in
abbrev pub counts_after : List NameCounts → List Event → List NameCounts
counts_after ns [] = ns
counts_after ns (e ∷ es) = counts_after (counted_in e.name e.count e.moment ns) es

-- the event of another moment
abbrev pub moved : ℕ → Event → Event
moved moment e = record { name = e.name; count = e.count; moment = moment }

-- the events with the moments that count: none is before an earlier one, nor before this moment
abbrev pub dated : ℕ → List Event → List Event
dated last [] = []
dated last (e ∷ es) = moved (max last e.moment) e ∷ dated (max last e.moment) es

-- the greatest of a moment and those of the events
abbrev pub greatest : ℕ → List Event → ℕ
greatest now [] = now
greatest now (e ∷ es) = greatest (max now e.moment) es

abbrev pub has_name : List ℕ → Event → Bool
has_name name e = bytes_eq e.name name

-- whether an event of this name belongs to an entry of the list that a moment sees
abbrev pub belongs : Interval → List ℕ → ℕ → ℕ → Event → Bool
belongs i name moment place e = has_name name e && turns i e.moment moment == place

abbrev pub count_of : Event → ℕ
count_of e = e.count

-- the sum of the counts of the events that belong to an entry
abbrev pub entry_sum : Interval → List ℕ → ℕ → List Event → ℕ → ℕ
entry_sum i name moment es place = capped (sum_by count_of (filter (belongs i name moment place) es))

-- the list of an interval that a moment sees
abbrev pub sums : Interval → List ℕ → ℕ → List Event → List ℕ
sums i name moment es = map (entry_sum i name moment es) (range_with_len 0 (entry_count i))

-- the lists of a name that a moment sees
abbrev pub sums_json : List ℕ → ℕ → List Event → Json
sums_json name moment es = lists_json (sums Hours name moment es) (sums Days name moment es) (sums Weeks name moment es)

-- what a moment sees of a name, where it has an event
abbrev pub history_view : ℕ → List ℕ → List Event → Option Json
history_view now name es = if list_any (has_name name) es then Some (sums_json name (greatest now es) es) else None
