-- Enums, objects and their fields.
use Rattle.std.specs.Prelude.{ℕ, List as Seq, [], ◌∷◌, None, option_map, Result, Ok, codes}
use Rattle.json_tree.specs.Json.{Json, text, get}
use Rattle.plain_text.specs.Names.{is_name}
use Rattle.fml_types.specs.Shapes.{type_from}
use Rattle.fml_types.specs.TypeTexts.{spelled}
use Rattle.fml_types.specs.declared.field_type.FieldType.{FieldType}
use Rattle.fml_types.specs.declared.manifest.Field.{Field}
use Rattle.fml_types.specs.declared.manifest.EnumDefinition.{EnumDefinition}
use Rattle.fml_types.specs.declared.manifest.ObjectDefinition.{ObjectDefinition}
use Rattle.fml_reader.specs.Outcome.{◌>>=◌, bad, needed, under}
use Rattle.fml_reader.specs.Values.{object_in, value_in, is_key}
use Rattle.fml_reader.specs.Walks.{members_in, there, required, optional}
use Rattle.fml_reader.specs.declared.fault.ModuleRefusal.{ModuleRefusal}

-- the type that a text spells
abbrev pub type_in : Json → Result FieldType ModuleRefusal
type_in (text s) = needed (option_map type_from (spelled s))
type_in x = bad

unfoldable pub field_of : Json → Result Field ModuleRefusal
field_of x = do
  o ← object_in x
  type ← required (codes "type") type_in (get (codes "type") x)
  default ← optional (codes "default") (there value_in) None (get (codes "default") x)
  Ok (record { field_type = type; default = default })

abbrev pub fields_of : Json → Result (Seq (Seq ℕ × Field)) ModuleRefusal
fields_of = members_in is_key field_of

-- nothing is asked of a variant but its key
abbrev pub variant_of : Json → Result (Unit {0}) ModuleRefusal
variant_of x = Ok tt

-- at least one variant
abbrev pub some_there : Seq (Seq ℕ × Unit {0}) → Result (Unit {0}) ModuleRefusal
some_there [] = bad
some_there (v ∷ vs) = Ok tt

unfoldable pub enum_of : Json → Result EnumDefinition ModuleRefusal
enum_of x = do
  o ← object_in x
  variants ← required (codes "variants") (members_in is_key variant_of) (get (codes "variants") x)
  some ← under (codes "variants") (some_there variants)
  Ok (record { variants = variants })

abbrev pub enums_of : Json → Result (Seq (Seq ℕ × EnumDefinition)) ModuleRefusal
enums_of = members_in is_name enum_of

unfoldable pub object_of : Json → Result ObjectDefinition ModuleRefusal
object_of x = do
  o ← object_in x
  fields ← required (codes "fields") fields_of (get (codes "fields") x)
  Ok (record { fields = fields })

abbrev pub objects_of : Json → Result (Seq (Seq ℕ × ObjectDefinition)) ModuleRefusal
objects_of = members_in is_name object_of
