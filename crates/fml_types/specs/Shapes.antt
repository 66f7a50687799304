-- The shape that a type is, and the type of a shape.
use Rattle.std.specs.Prelude.{ℕ, List as Seq, Option as Maybe, Some, None}
use Rattle.fml_types.specs.Shape as shape
use Rattle.fml_types.specs.Shape.{Shape}
use Rattle.fml_types.specs.declared.field_type.Key.{Key}
use Rattle.fml_types.specs.declared.field_type.Key.TheVariants as keys
use Rattle.fml_types.specs.declared.field_type.FieldType.{FieldType}
use Rattle.fml_types.specs.declared.field_type.FieldType.TheVariants as types

-- the enum that a map is keyed by
abbrev pub key_of : Key → Maybe (Seq ℕ)
key_of keys.String = None
key_of (keys.Named n) = Some n

abbrev pub key_from : Maybe (Seq ℕ) → Key
key_from None = keys.String
key_from (Some n) = keys.Named n

abbrev pub shape_of : FieldType → Shape
shape_of types.Boolean = shape.boolean
shape_of types.Int = shape.int
shape_of types.String = shape.string
shape_of types.Text = shape.text
shape_of types.Image = shape.image
shape_of (types.Option s) = shape.option s
shape_of (types.List s) = shape.list s
shape_of (types.Map k s) = shape.map (key_of k) s
shape_of (types.Named n) = shape.named n

abbrev pub type_from : Shape → FieldType
type_from shape.boolean = types.Boolean
type_from shape.int = types.Int
type_from shape.string = types.String
type_from shape.text = types.Text
type_from shape.image = types.Image
type_from (shape.option s) = types.Option s
type_from (shape.list s) = types.List s
type_from (shape.map k s) = types.Map (key_from k) s
type_from (shape.named n) = types.Named n
