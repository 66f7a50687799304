-- A tree laid over a value of a type.
use Rattle.std.specs.Prelude.{ℕ, Bool, List as Seq, [], ◌∷◌, Option as Maybe, Some, None, unwrap_or, if◌then◌else◌}
use Rattle.json_tree.specs.Json as json
use Rattle.json_tree.specs.Json.{Json}
use Rattle.fml_types.specs.Named.{found, has_name}
use Rattle.fml_types.specs.Shape as shape
use Rattle.fml_types.specs.Shape.{Shape}
use Rattle.fml_types.specs.declared.manifest.Field.{Field}
use Rattle.fml_types.specs.declared.manifest.ObjectDefinition.{ObjectDefinition}
use Rattle.fml_types.specs.declared.manifest.TypeTable.{TypeTable}
use Rattle.fml_value.specs.Entries.{with_entry, replaced}
use Rattle.fml_value.specs.Fits.{type_of_entry, type_of_field}
use Rattle.fml_value.specs.Takes.{takes}
use Rattle.fml_value.specs.Typed.{TypedValue, truth, whole, text, absent, present, list, map, variant, object, TypedItems, no_items, item, TypedEntries, no_entries, entry, entries_of}

-- the names of a map or an object, each with its value
abbrev pub pairs_of : TypedEntries → Seq (Seq ℕ × TypedValue)
pairs_of no_entries = []
pairs_of (entry name v es) = (name, v) ∷ pairs_of es

abbrev pub pairs_in : TypedValue → Seq (Seq ℕ × TypedValue)
pairs_in (map es) = pairs_of es
pairs_in (object es) = pairs_of es
pairs_in v = []

-- the fields of an object, where there is one
abbrev pub fields_of : Maybe ObjectDefinition → Seq (Seq ℕ × Field)
fields_of None = []
fields_of (Some o) = o.fields

-- the value inside an Option, or the zero of the type inside where it is absent
abbrev pub held : TypedValue → TypedValue → TypedValue
held (present v) z = v
held v z = z

-- under Options, what is laid over the value that they hold
abbrev pub inside : (Shape → TypedValue) → (Shape → TypedValue → TypedValue) → Shape → TypedValue → TypedValue
inside zeros lay (shape.option t) base = present (inside zeros lay t (held base (zeros t)))
inside zeros lay t base = lay t base

-- a text of an enum is one of its variants
abbrev pub text_value : Shape → Seq ℕ → TypedValue
text_value (shape.named n) s = variant s
text_value t s = text s

-- the type of a list's items
abbrev pub item_type : Shape → Shape
item_type (shape.list t) = t
item_type t = t

-- the types that the names of a map or an object have
abbrev pub type_under : TypeTable → Shape → Seq ℕ → Maybe Shape
type_under types (shape.map k t) name = type_of_entry types k t name
type_under types (shape.named n) name = type_of_field (fields_of (found n types.objects)) name
type_under types t name = None

abbrev pub value_with : Shape → Seq (Seq ℕ × TypedValue) → TypedValue
value_with (shape.map k t) es = map (entries_of es)
value_with t es = object (entries_of es)

-- the entries with this value under the name, which stands at its place in order where it is new
abbrev pub put : Seq ℕ → TypedValue → Seq (Seq ℕ × TypedValue) → Seq (Seq ℕ × TypedValue)
put name v es = if has_name name es then replaced name v es else with_entry name v es

-- a name whose type takes the tree gets the tree laid over its value, or over zero where it has none
abbrev pub with_member : (Shape → TypedValue) → (Shape → Bool) → (Shape → TypedValue → TypedValue) → Seq ℕ → Maybe Shape → Seq (Seq ℕ × TypedValue) → Seq (Seq ℕ × TypedValue)
with_member zeros taken lay name None es = es
with_member zeros taken lay name (Some t) es = if taken t then put name (lay t (unwrap_or (found name es) (zeros t))) es else es

-- zeros gives the zero of each type
abbrev mutual
  -- a tree that the type takes, laid over a value of it; no type takes an odd number
  pub laid : (Shape → TypedValue) → TypeTable → Shape → TypedValue → Json → TypedValue
  laid zeros types t base json.null = absent
  laid zeros types t base (json.truth b) = inside zeros (λ u v. truth b) t base
  laid zeros types t base (json.whole n) = inside zeros (λ u v. whole n) t base
  laid zeros types t base json.odd = absent
  laid zeros types t base (json.text s) = inside zeros (λ u v. text_value u s) t base
  laid zeros types t base (json.list xs) = inside zeros (λ u v. list (items_laid zeros types (item_type u) xs)) t base
  laid zeros types t base (json.object ms) = inside zeros (λ u v. value_with u (members_laid zeros types (type_under types u) (pairs_in v) ms)) t base

  -- each item, over zero
  pub items_laid : (Shape → TypedValue) → TypeTable → Shape → json.Items → TypedItems
  items_laid zeros types t json.no_items = no_items
  items_laid zeros types t (json.item x xs) = item (laid zeros types t (zeros t) x) (items_laid zeros types t xs)

  -- each member whose name has a type that takes its value; the others are read past
  pub members_laid : (Shape → TypedValue) → TypeTable → (Seq ℕ → Maybe Shape) → Seq (Seq ℕ × TypedValue) → json.Members → Seq (Seq ℕ × TypedValue)
  members_laid zeros types type_of es json.no_members = es
  members_laid zeros types type_of es (json.member k x ms) = members_laid zeros types type_of (with_member zeros (λ t. takes types t x) (λ t v. laid zeros types t v x) k (type_of k) es) ms

-- a tree laid over a value of the type: the value itself, where the type doesn't take the tree
abbrev pub overlay_with : (Shape → TypedValue) → TypeTable → Shape → TypedValue → Json → TypedValue
overlay_with zeros types t base x = if takes types t x then laid zeros types t base x else base
