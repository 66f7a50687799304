-- The attributes by name.
use Rattle.std.specs.Prelude.{◌≡◌, ℕ, List, [], ◌∷◌, ◌++◌, Option, Some, option_map, bytes_eq, if◌then◌else◌}
use Rattle.json_tree.specs.Json.{Json, truth, members_of, get_member}
use Rattle.jexl_value.specs.Meaning.{without_odd}
use Rattle.enrol_states.specs.State.{status_of}
use Rattle.enrol_states.specs.Statuses.{is_enrolled_now}
use Rattle.enrol_states.specs.declared.state.State.{State}
use Rattle.app_context.specs.Attributes.{shared_entries, enrolled_name, attributes}
use Rattle.app_context.specs.declared.context.Context.{Context}

-- the names of a client's own attributes, each with its value, where it has one
abbrev pub table : Context → State → List ℕ → ℕ → List (List ℕ × Option Json)
table c s slug now = shared_entries c s now ++ (enrolled_name, Some (truth (is_enrolled_now (status_of slug s.rows)))) ∷ []

-- what the table says of the name, and the other value where it lacks the name
abbrev pub value_in : List (List ℕ × Option Json) → List ℕ → Option Json → Option Json
value_in [] name other = other
value_in (e ∷ es) name other = if bytes_eq name e.0 then e.1 else value_in es name other

-- an attribute is what the table says of its name, also where that is no value, and the custom one where the table lacks the name
abbrev pub AreByTable : Type 0
AreByTable =
    (c : Context) (s : State) (slug : List ℕ) (now : ℕ) (name : List ℕ)
    → get_member name (members_of (attributes c s slug now)) ≡ value_in (table c s slug now) name (option_map without_odd (get_member name (members_of c.custom)))
