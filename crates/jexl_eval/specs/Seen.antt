-- The JSON value that was found.
use Rattle.json_tree.specs.Json.{Json}
use Rattle.jexl_value.specs.Value.{as_json}
use Rattle.jexl_eval.specs.declared.found.Found.{Found}
use Rattle.jexl_eval.specs.declared.found.Found.TheVariants.{Borrowed, Owned, Shared}

abbrev pub found_as_json : Found → Json
found_as_json (Borrowed v) = as_json v.now
found_as_json (Owned v) = as_json v
found_as_json (Shared r) = as_json r.value
