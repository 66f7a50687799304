-- The files of a drill, each as a JSON value, and its script.
use Rattle.std.specs.Prelude.{◌*◌, ℕ, nat_lt, false, List, [], ◌∷◌, ◌++◌, map, codes}
use Rattle.std.specs.List.{range_with_len, flat_map}
use Rattle.json_tree.specs.Json.{Json, truth, text, list, object, items_of, members_of}
use Rattle.recipe_drill.specs.Records.{feature_name, record_json}

-- a digit above 0, and then the ten numbers of two digits that begin with it
abbrev pub decade : ℕ → List ℕ
decade d = d ∷ range_with_len (10 * d) 10

-- the numbers of the features, in the order of their decimals as texts
abbrev pub feature_numbers : List ℕ
feature_numbers = 0 ∷ decade 1 ++ decade 2 ++ decade 3 ++ range_with_len 4 6

-- a Boolean variable that is false by default
abbrev pub variable_json : Json
variable_json = object (members_of ((codes "default", truth false) ∷ (codes "type", text (codes "Boolean")) ∷ []))

-- features 0 to 3 may be shared
unfoldable pub definition_json : ℕ → Json
definition_json f = object (members_of ((codes "allow-coenrollment", truth (nat_lt f 4)) ∷ (codes "variables", object (members_of ((codes "enabled", variable_json) ∷ []))) ∷ []))

abbrev pub definition : ℕ → List ℕ × Json
definition f = (feature_name f, definition_json f)

unfoldable pub manifest_json : Json
manifest_json = object (members_of ((codes "channels", list (items_of (text (codes "release") ∷ []))) ∷ (codes "features", object (members_of (map definition feature_numbers))) ∷ []))

unfoldable pub context_json : Json
context_json = object (members_of ((codes "app_name", text (codes "fenix")) ∷ (codes "app_version", text (codes "110.0.0")) ∷ (codes "channel", text (codes "release")) ∷ []))

-- as many records as the count says
unfoldable pub recipes_json : ℕ → ℕ → Json
recipes_json start count = object (members_of ((codes "data", list (items_of (map (record_json start) (range_with_len 0 count)))) ∷ []))

abbrev pub script_lines : List (List ℕ)
script_lines =
    codes "manifest manifest.json release" ∷
    codes "context context.json" ∷
    codes "fetch recipes.json" ∷
    codes "apply" ∷
    codes "opt-out drill-0000" ∷
    codes "opt-in drill-0001 treatment" ∷
    codes "apply" ∷
    []

-- each line with its end
unfoldable pub script : List ℕ
script = flat_map (λ line. line ++ codes "\n") script_lines
