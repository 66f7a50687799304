-- The tree of a value.
use Rattle.std.specs.Prelude.{◌≡◌}
use Rattle.json_tree.specs.Json as json
use Rattle.json_tree.specs.Json.{Json}
use Rattle.fml_types.specs.Shape.{Shape}
use Rattle.fml_types.specs.declared.manifest.TypeTable.{TypeTable}
use Rattle.fml_value.specs.HasType.{HasType}
use Rattle.fml_value.specs.Typed.{TypedValue, truth, whole, text, absent, present, list, map, variant, object, TypedItems, no_items, item, TypedEntries, no_entries, entry}

abbrev mutual
  pub tree_of : TypedValue → Json
  tree_of (truth b) = json.truth b
  tree_of (whole n) = json.whole n
  tree_of (text s) = json.text s
  tree_of absent = json.null
  tree_of (present v) = tree_of v
  tree_of (list vs) = json.list (trees_of vs)
  tree_of (map es) = json.object (members_of es)
  tree_of (variant s) = json.text s
  tree_of (object es) = json.object (members_of es)

  pub trees_of : TypedItems → json.Items
  trees_of no_items = json.no_items
  trees_of (item v vs) = json.item (tree_of v) (trees_of vs)

  pub members_of : TypedEntries → json.Members
  members_of no_entries = json.no_members
  members_of (entry name v es) = json.member name (tree_of v) (members_of es)

-- the value has the type, and this is its tree
abbrev pub IsValueOf : TypeTable → Shape → Json → TypedValue → Type 0
IsValueOf types t x v = HasType types t v × (tree_of v ≡ x)

-- no value of the type has this tree
abbrev pub HasNoValue : TypeTable → Shape → Json → Type 0
HasNoValue types t x = (v : TypedValue) → HasType types t v → tree_of v ≡ x → ⊥
