-- A value is the only one that is its JSON value.
use Rattle.std.proofs.Common.{◌≡◌, refl, sym, ap, ◌∙◌}
use Rattle.json_tree.specs.Json as json
use Rattle.json_tree.specs.Json.{Json}
use Rattle.json_tree.specs.Inverse.{items_from, members_from, items_from-items_of, members_from-members_of}
use Rattle.jexl_value.specs.Value.{as_json}
use Rattle.jexl_value.specs.declared.value.Value.{Value}
use Rattle.jexl_value.specs.declared.value.Value.TheVariants.{Null, Truth, Whole, Text, List, Object}

abbrev value_from : Json → Value
value_from json.null = Null
value_from (json.truth b) = Truth b
value_from (json.whole n) = Whole n
value_from json.odd = Null
value_from (json.text s) = Text s
value_from (json.list xs) = List (items_from xs)
value_from (json.object ms) = Object (members_from ms)

value_from-as_json : (v : Value) → value_from (as_json v) ≡ v
value_from-as_json Null = refl
value_from-as_json (Truth b) = refl
value_from-as_json (Whole n) = refl
value_from-as_json (Text s) = refl
value_from-as_json (List xs) = ap List (items_from-items_of xs)
value_from-as_json (Object ms) = ap Object (members_from-members_of ms)

pub as_json-injective : (v w : Value) → as_json v ≡ as_json w → v ≡ w
as_json-injective v w e = sym (value_from-as_json v) ∙ ap value_from e ∙ value_from-as_json w
