-- What the branch of a recipe sets of the preferences that variables are bound to.
use Rattle.std.specs.Prelude.{ℕ, ◌&&◌, Bool, true, false, List, [], fold, find, Option, Some, None, bytes_eq, option_map, option_and_then}
use Rattle.std.specs.BTreeMap.{insert_entry}
use Rattle.std.specs.List.{filter_map}
use Rattle.json_tree.specs.Json.{Json, get}
use Rattle.json_tree.specs.Tree.{json_of}
use Rattle.json_tree.specs.declared.tree.Tree.{Tree}
use Rattle.fml_types.specs.Named.{found}
use Rattle.fml_types.specs.Shapes.{shape_of}
use Rattle.fml_types.specs.declared.field_type.FieldType.{FieldType}
use Rattle.fml_types.specs.declared.field_type.FieldType.TheVariants as types
use Rattle.fml_types.specs.declared.manifest.Field.{Field}
use Rattle.fml_types.specs.declared.manifest.Manifest.{Manifest}
use Rattle.fml_types.specs.declared.manifest.TypeTable.{TypeTable}
use Rattle.fml_value.specs.Takes.{takes}
use Rattle.recipe_reader.specs.Outcome.{only_if}
use Rattle.recipe_reader.specs.Payloads.{slug_cmp}
use Rattle.json_tree.specs.Inverse.{tree_from}
use Rattle.recipe_reader.specs.declared.recipe.Branch.{Branch}
use Rattle.recipe_reader.specs.declared.recipe.Recipe.{Recipe}
use Rattle.pref_bindings.specs.declared.bindings.Binding.{Binding}
use Rattle.pref_bindings.specs.Changes.{Setting}

-- the recipe's branch of that slug
abbrev pub branch_with : List ℕ → Recipe → Option Branch
branch_with slug r = find (λ b. bytes_eq b.slug slug) r.branches

-- what the branch sets of the feature
abbrev pub set_by : List ℕ → Branch → Option Tree
set_by feature b = option_map (λ f. f.value) (find (λ f. bytes_eq f.feature feature) b.features)

-- the variable of the manifest's feature
abbrev pub variable_of : List ℕ → List ℕ → Manifest → Option Field
variable_of feature variable m = option_and_then (λ f. found variable f.variables) (found feature m.features)

-- whether the values of the type are values of preferences
abbrev pub is_bound_type : FieldType → Bool
is_bound_type types.Boolean = true
is_bound_type types.Int = true
is_bound_type types.String = true
is_bound_type types.Text = true
is_bound_type t = false

-- the value, where it is one of a preference and the type takes it
abbrev pub taken : TypeTable → FieldType → Json → Option Tree
taken types t x = only_if (is_bound_type t && takes types (shape_of t) x) (tree_from x)

-- the value that the branch's value of a feature gives to a variable
abbrev pub value_for : Manifest → Field → List ℕ → Tree → Option Tree
value_for m field variable value = option_and_then (taken m.types field.field_type) (get variable (json_of value))

-- the value that the branch gives to the variable of the binding, where the manifest has that
abbrev pub bound_value : Manifest → Branch → Binding → Option Tree
bound_value m branch b = option_and_then (λ value. option_and_then (λ field. value_for m field b.variable value) (variable_of b.feature b.variable m)) (set_by b.feature branch)

-- its preference, with that value
abbrev pub setting_of : Manifest → Branch → Binding → Option Setting
setting_of m branch b = option_map (λ v. (b.preference, v)) (bound_value m branch b)

-- the settings with one more, at its place in the order of names
abbrev pub with_setting : List Setting → Setting → List Setting
with_setting vs v = insert_entry slug_cmp vs v.0 v.1

-- with one more, where there is one
abbrev pub with_any : List Setting → Option Setting → List Setting
with_any vs None = vs
with_any vs (Some v) = with_setting vs v

abbrev pub in_order : List Setting → List Setting
in_order vs = fold with_setting [] vs

-- what the branch sets, in order by preference
abbrev pub set_by_branch : Manifest → List Binding → Branch → List Setting
set_by_branch m bs branch = in_order (filter_map (setting_of m branch) bs)

-- what the recipe's branch of that slug sets: nothing, where there is none
abbrev pub set_by_recipe : Manifest → List Binding → Option Branch → List Setting
set_by_recipe m bs None = []
set_by_recipe m bs (Some branch) = set_by_branch m bs branch

unfoldable pub bound_values : Manifest → Recipe → List ℕ → List Binding → List Setting
bound_values m r branch bs = set_by_recipe m bs (branch_with branch r)
