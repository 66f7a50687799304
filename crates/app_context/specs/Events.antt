-- The counts of events among the attributes that an application adds.
use Rattle.std.specs.Prelude.{◌≡◌, ℕ, List, codes, bytes_eq, Some, if◌then◌else◌}
use Rattle.json_tree.specs.Json.{Json, members_of, get_member}
use Rattle.jexl_value.specs.Meaning.{without_odd}
use Rattle.jexl_value.specs.Names.{with_member}
use Rattle.enrol_states.specs.declared.state.State.{State}
use Rattle.app_context.specs.Attributes.{attributes}
use Rattle.app_context.specs.declared.context.Context.{Context}

-- the custom attribute that has them
abbrev pub counts_name : List ℕ
counts_name = codes "event_counts"

-- the same context whose custom attribute of that name is this value, in place of one that it had
abbrev pub with_events : Context → Json → Context
with_events c counts = record c { custom = with_member counts_name counts c.custom }

-- then the attribute is this value with null for each number that is no `i64`, and each other one is what it was
abbrev pub HaveCounts : Type 0
HaveCounts =
    (c : Context) (counts : Json) (s : State) (slug : List ℕ) (now : ℕ) (name : List ℕ)
    → get_member name (members_of (attributes (with_events c counts) s slug now)) ≡ (if bytes_eq counts_name name then Some (without_odd counts) else get_member name (members_of (attributes c s slug now)))
