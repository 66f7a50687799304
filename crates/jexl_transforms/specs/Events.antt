-- The transforms of events, by the counts that the attributes have.
use Rattle.std.specs.Prelude.{ℕ, ◌+◌, pos, Bool, nat_lt, List, [], ◌∷◌, take, drop, codes, bytes_eq, sum_by, count_by, position, Option, Some, None, unwrap_or, option_map, option_and_then, if◌then◌else◌}
use Rattle.std.specs.List.{list_any}
use Rattle.json_tree.specs.Json.{Json, null, whole, text, list, Items, no_items, item, Members, get, get_member}
use Rattle.jexl_transforms.specs.Numbers.{bound_of, index_of}

-- ---- the counts of an event in an interval

-- the intervals in which events are counted
abbrev pub is_interval : List ℕ → Bool
is_interval name = list_any (bytes_eq name) (codes "Hours" ∷ codes "Days" ∷ codes "Weeks" ∷ [])

abbrev pub listed : Items → List Json
listed no_items = []
listed (item x xs) = x ∷ listed xs

-- the items of a list, and none of what isn't one
abbrev pub items_in : Option Json → List Json
items_in (Some (list xs)) = listed xs
items_in x = []

-- what the attributes have of an event in an interval
abbrev pub kept_of : Members → List ℕ → List ℕ → Option Json
kept_of attributes event interval = option_and_then (get interval) (option_and_then (get event) (get_member (codes "event_counts") attributes))

-- its counts, newest first. Those at index 72 and above aren't looked at
abbrev pub counts_of : Members → List ℕ → List ℕ → List Json
counts_of attributes event interval = take 72 (items_in (kept_of attributes event interval))

-- the number that an item counts as: 0 where it is no whole number from 0 to 2 ^ 32 - 1
abbrev pub count : Json → ℕ
count x = unwrap_or (bound_of 0 x) 0

abbrev pub is_counted : Json → Bool
is_counted x = nat_lt 0 (count x)

-- ---- what a subject and arguments ask for

-- the counts of an event, which is a text, in an interval
abbrev pub counts_in : Members → Json → Json → Option (List Json)
counts_in attributes (text event) (text interval) = if is_interval interval then Some (counts_of attributes event interval) else None
counts_in attributes event interval = None

-- n of them, from an index on. Those past the end count as 0
abbrev pub counts_from : Members → Json → Json → Json → ℕ → Option (List Json)
counts_from attributes event interval n from =
    option_and_then (λ counts. option_map (λ k. take k (drop from counts)) (index_of n)) (counts_in attributes event interval)

-- the arguments are an interval, n, and the index, which is 0 where it is left out
abbrev pub asked_counts : Members → Json → List Json → Option (List Json)
asked_counts attributes event (interval ∷ n ∷ []) = counts_from attributes event interval n 0
asked_counts attributes event (interval ∷ n ∷ from ∷ []) = option_and_then (counts_from attributes event interval n) (index_of from)
asked_counts attributes event arguments = None

-- ---- the transforms

-- `eventSum`: the sum of the counts asked for
abbrev pub event_sum_value : Members → Json → List Json → Option Json
event_sum_value attributes event arguments = option_map (λ counts. whole (pos (sum_by count counts))) (asked_counts attributes event arguments)

-- `eventCountNonZero`: how many of them are above 0
abbrev pub event_nonzero_value : Members → Json → List Json → Option Json
event_nonzero_value attributes event arguments = option_map (λ counts. whole (pos (count_by is_counted counts))) (asked_counts attributes event arguments)

abbrev pub index_json : Option ℕ → Json
index_json (Some i) = whole (pos i)
index_json None = null

-- the least index at or above this one whose count is above 0
abbrev pub seen_from : ℕ → List Json → Option ℕ
seen_from from counts = option_map (λ i. from + i) (position is_counted (drop from counts))

abbrev pub last_seen : Members → Json → Json → ℕ → Option Json
last_seen attributes event interval from = option_map (λ counts. index_json (seen_from from counts)) (counts_in attributes event interval)

-- `eventLastSeen`: that index, or null. The arguments are an interval, and the index from which on is looked, which is 0 where it is left out
abbrev pub event_seen_value : Members → Json → List Json → Option Json
event_seen_value attributes event (interval ∷ []) = last_seen attributes event interval 0
event_seen_value attributes event (interval ∷ from ∷ []) = option_and_then (last_seen attributes event interval) (index_of from)
event_seen_value attributes event arguments = None
