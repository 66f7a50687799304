-- The JSON value that a value of Jexl is.
use Rattle.std.specs.Prelude.{ℕ, List as Seq}
use Rattle.json_tree.specs.Json as json
use Rattle.json_tree.specs.Json.{Json, items_of, members_of}
use Rattle.jexl_value.specs.declared.value.Value.{Value}
use Rattle.jexl_value.specs.declared.value.Value.TheVariants.{Null, Truth, Whole, Text, List, Object}

abbrev pub as_json : Value → Json
as_json Null = json.null
as_json (Truth b) = json.truth b
as_json (Whole n) = json.whole n
as_json (Text s) = json.text s
as_json (List xs) = json.list (items_of xs)
as_json (Object ms) = json.object (members_of ms)

abbrev pub member_of : Seq ℕ × Value → Seq ℕ × Json
member_of m = (m.0, as_json m.1)
