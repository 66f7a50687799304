-- What the fields of objects need of other objects.
use Rattle.std.specs.Prelude.{ℕ, ◌+◌, ◌&&◌, ◌||◌, Bool, true, false, List as Seq, length, map as over, Option as Maybe, Some, None, option_and_then, if◌then◌else◌}
use Rattle.json_tree.specs.Json as json
use Rattle.json_tree.specs.Json.{Json}
use Rattle.json_tree.specs.Bytes.{text_of}
use Rattle.json_tree.specs.Tree.{json_of}
use Rattle.json_tree.specs.declared.tree.Tree.{Tree}
use Rattle.fml_types.specs.Shape as shape
use Rattle.fml_types.specs.Shape.{Shape}
use Rattle.fml_types.specs.Shapes.{shape_of}
use Rattle.fml_types.specs.Named.{place}
use Rattle.fml_types.specs.declared.manifest.Field.{Field}
use Rattle.fml_types.specs.declared.manifest.ObjectDefinition.{ObjectDefinition}
use Rattle.fml_types.specs.declared.graph.Need.{Need}
use Rattle.fml_types.specs.declared.graph.Need.TheVariants.{Nothing, Mentioned, Reached}
use Rattle.fml_types.specs.declared.graph.Part.{Part}

-- the one enum or object that the values of a type may hold
abbrev pub mention : Shape → Maybe (Seq ℕ)
mention shape.boolean = None
mention shape.int = None
mention shape.string = None
mention shape.text = None
mention shape.image = None
mention (shape.option s) = mention s
mention (shape.list s) = mention s
mention (shape.map k s) = mention s
mention (shape.named n) = Some n

-- the type is an enum or an object itself
abbrev pub is_named : Shape → Bool
is_named (shape.named n) = true
is_named s = false

abbrev pub is_list : Shape → Bool
is_list (shape.list s) = true
is_list s = false

abbrev pub is_map : Shape → Bool
is_map (shape.map k s) = true
is_map s = false

abbrev pub has_no_items : json.Items → Bool
has_no_items json.no_items = true
has_no_items (json.item x xs) = false

abbrev pub has_no_members : json.Members → Bool
has_no_members json.no_members = true
has_no_members (json.member k x ms) = false

-- a default that is null, `[]` of a list, or `{}` of a map or an object
abbrev pub is_empty_json : Shape → Json → Bool
is_empty_json s json.null = true
is_empty_json s (json.list xs) = has_no_items xs && is_list s
is_empty_json s (json.object ms) = has_no_members ms && (is_map s || is_named s)
is_empty_json s x = false

abbrev pub is_empty : Shape → Maybe Tree → Bool
is_empty s None = true
is_empty s (Some t) = is_empty_json s (json_of t)

-- which objects a field needs: all that its type reaches where a default is there, else the object that its type is
abbrev pub need_of : Shape → Bool → Need
need_of s empty = if empty then (if is_named s then Mentioned else Nothing) else Reached

-- how many objects stand in a value, itself counted
abbrev mutual
  pub objects_in : Json → ℕ
  objects_in json.null = 0
  objects_in (json.truth b) = 0
  objects_in (json.whole n) = 0
  objects_in json.odd = 0
  objects_in (json.text s) = 0
  objects_in (json.list xs) = objects_in_items xs
  objects_in (json.object ms) = 1 + objects_in_members ms

  pub objects_in_items : json.Items → ℕ
  objects_in_items json.no_items = 0
  objects_in_items (json.item x xs) = objects_in x + objects_in_items xs

  pub objects_in_members : json.Members → ℕ
  objects_in_members json.no_members = 0
  objects_in_members (json.member k x ms) = objects_in x + objects_in_members ms

-- the length of the default's text
abbrev pub default_len : Maybe Tree → ℕ
default_len None = 4
default_len (Some t) = length (text_of (json_of t))

abbrev pub objects_in_default : Maybe Tree → ℕ
objects_in_default None = 0
objects_in_default (Some t) = objects_in (json_of t)

-- what a field weighs without the objects that it needs
unfoldable pub size_of : Seq ℕ → Field → ℕ
size_of name f = length name + 86 + default_len f.default

-- how often the greatest weight of these objects counts
unfoldable pub times_of : Field → ℕ
times_of f = if is_empty (shape_of f.field_type) f.default then 1 else objects_in_default f.default + 1

unfoldable pub part_of : Seq (Seq ℕ × ObjectDefinition) → Seq ℕ × Field → Part
part_of objects f = record {
  mentions = option_and_then (λ n. place n objects) (mention (shape_of f.1.field_type));
  need = need_of (shape_of f.1.field_type) (is_empty (shape_of f.1.field_type) f.1.default);
  size = size_of f.0 f.1;
  times = times_of f.1;
}

-- the fields of each object
abbrev pub graph_of : Seq (Seq ℕ × ObjectDefinition) → Seq (Seq Part)
graph_of objects = over (λ o. over (part_of objects) o.1.fields) objects
