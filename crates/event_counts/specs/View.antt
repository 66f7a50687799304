-- What a moment sees of counts: an object from names to objects of three lists.
use Rattle.std.specs.Prelude.{ℕ, List, [], ◌∷◌, codes, map, pos}
use Rattle.json_tree.specs.Json.{Json, whole, list, object, items_of, members_of}
use Rattle.event_counts.specs.declared.name_counts.NameCounts.{NameCounts}
use Rattle.event_counts.specs.Kept.{moment_at, at_moment}

abbrev pub number_json : ℕ → Json
number_json n = whole (pos n)

abbrev pub list_json : List ℕ → Json
list_json xs = list (items_of (map number_json xs))

-- the lists of a name
abbrev pub lists_json : List ℕ → List ℕ → List ℕ → Json
lists_json hours days weeks = object (members_of ((codes "Days", list_json days) ∷ (codes "Hours", list_json hours) ∷ (codes "Weeks", list_json weeks) ∷ []))

abbrev pub counts_json : NameCounts → Json
counts_json n = lists_json n.hours n.days n.weeks

abbrev pub member_at : ℕ → NameCounts → List ℕ × Json
member_at moment n = (n.name, counts_json (at_moment moment n))

-- the names and their lists at the greatest of `now` and the latest moments
abbrev pub view_of : ℕ → List NameCounts → Json
view_of now ns = object (members_of (map (member_at (moment_at now ns)) ns))
