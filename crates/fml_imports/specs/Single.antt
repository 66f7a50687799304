-- A manifest as one file.
use Rattle.std.specs.Prelude.{ℕ, List as Seq, [], ◌∷◌, ◌++◌, map, Option, Some, None, option_map, codes}
use Rattle.json_tree.specs.Json as json
use Rattle.json_tree.specs.Json.{Json, items_of, members_of}
use Rattle.json_tree.specs.Tree.{json_of}
use Rattle.fml_types.specs.Shape as shape
use Rattle.fml_types.specs.Shape.{Shape}
use Rattle.fml_types.specs.Shapes.{shape_of}
use Rattle.fml_types.specs.declared.manifest.DefaultEntry.{DefaultEntry}
use Rattle.fml_types.specs.declared.manifest.EnumDefinition.{EnumDefinition}
use Rattle.fml_types.specs.declared.manifest.FeatureDefinition.{FeatureDefinition}
use Rattle.fml_types.specs.declared.manifest.Field.{Field}
use Rattle.fml_types.specs.declared.manifest.Manifest.{Manifest}
use Rattle.fml_types.specs.declared.manifest.ObjectDefinition.{ObjectDefinition}

abbrev pub key_text : Option (Seq ℕ) → Seq ℕ
key_text None = codes "String"
key_text (Some name) = name

-- a type, without spaces but one after the comma of a map
abbrev pub type_text : Shape → Seq ℕ
type_text shape.boolean = codes "Boolean"
type_text shape.int = codes "Int"
type_text shape.string = codes "String"
type_text shape.text = codes "Text"
type_text shape.image = codes "Image"
type_text (shape.option s) = codes "Option<" ++ type_text s ++ codes ">"
type_text (shape.list s) = codes "List<" ++ type_text s ++ codes ">"
type_text (shape.map k s) = codes "Map<" ++ key_text k ++ codes ", " ++ type_text s ++ codes ">"
type_text (shape.named name) = name

-- an object with a member for each name
abbrev pub members_json : {T : Type 0} → (T → Json) → Seq (Seq ℕ × T) → Seq (Seq ℕ × Json)
members_json value pairs = map (λ p. (p.0, value p.1)) pairs

abbrev pub object_json : Seq (Seq ℕ × Json) → Json
object_json members = json.object (members_of members)

abbrev pub by_name_json : {T : Type 0} → (T → Json) → Seq (Seq ℕ × T) → Json
by_name_json value pairs = object_json (members_json value pairs)

abbrev pub list_json : {T : Type 0} → (T → Json) → Seq T → Json
list_json value xs = json.list (items_of (map value xs))

-- a member, where there is one
abbrev pub given : Seq ℕ → Option Json → Seq (Seq ℕ × Json)
given key None = []
given key (Some x) = (key, x) ∷ []

abbrev pub variant_json : Unit {0} → Json
variant_json u = object_json []

abbrev pub enum_json : EnumDefinition → Json
enum_json e = object_json ((codes "variants", by_name_json variant_json e.variants) ∷ [])

abbrev pub field_json : Field → Json
field_json f = object_json (given (codes "default") (option_map json_of f.default) ++ (codes "type", json.text (type_text (shape_of f.field_type))) ∷ [])

abbrev pub definition_json : ObjectDefinition → Json
definition_json o = object_json ((codes "fields", by_name_json field_json o.fields) ∷ [])

abbrev pub entry_json : DefaultEntry → Json
entry_json e = object_json (given (codes "channels") (option_map (list_json json.text) e.channels) ++ (codes "value", json_of e.value) ∷ [])

abbrev pub feature_json : FeatureDefinition → Json
feature_json f = object_json ((codes "allow-coenrollment", json.truth f.allows_coenrollment) ∷ (codes "defaults", list_json entry_json f.defaults) ∷ (codes "variables", by_name_json field_json f.variables) ∷ [])

-- the one file that has all of a manifest
abbrev pub single : Manifest → Json
single m = object_json
    ((codes "channels", list_json json.text (m.channel ∷ [])) ∷ (codes "enums", by_name_json enum_json m.types.enums)
    ∷ (codes "features", by_name_json feature_json m.features) ∷ (codes "objects", by_name_json definition_json m.types.objects) ∷ [])
