-- Laws of the definitions alone.
use Rattle.std.specs.Prelude.{◌≡◌, ℕ, List, Some, bytes_eq, if◌then◌else◌}
use Rattle.json_tree.specs.Json.{Json, IsSound, members_of, get_member}
use Rattle.jexl_value.specs.Kept.{IsValue}
use Rattle.jexl_value.specs.Meaning.{without_odd}
use Rattle.jexl_value.specs.Names.{with_member}

-- each sound JSON value becomes a value
abbrev pub BecomesValue : Type 0
BecomesValue = (x : Json) → IsSound x → IsValue (without_odd x)

-- a value becomes itself
abbrev pub StaysValue : Type 0
StaysValue = (x : Json) → IsValue x → without_odd x ≡ x

-- a name that got a value has it, and each other name has what it had
abbrev pub IsFound : Type 0
IsFound = (name : List ℕ) (x : Json) (ms : List (List ℕ × Json)) (k : List ℕ)
    → get_member k (members_of (with_member name x ms)) ≡ (if bytes_eq name k then Some x else get_member k (members_of ms))
