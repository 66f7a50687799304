-- The value of a type before anything is laid over it.
use Rattle.std.specs.Prelude.{ℕ, zero, suc, pos, false, List as Seq, [], ◌∷◌, map as over, Option as Maybe, Some, None}
use Rattle.json_tree.specs.Json.{Json}
use Rattle.json_tree.specs.Tree.{json_of}
use Rattle.json_tree.specs.declared.tree.Tree.{Tree}
use Rattle.fml_types.specs.Named.{found}
use Rattle.fml_types.specs.Shape as shape
use Rattle.fml_types.specs.Shape.{Shape}
use Rattle.fml_types.specs.Shapes.{shape_of}
use Rattle.fml_types.specs.declared.manifest.EnumDefinition.{EnumDefinition}
use Rattle.fml_types.specs.declared.manifest.Field.{Field}
use Rattle.fml_types.specs.declared.manifest.TypeTable.{TypeTable}
use Rattle.fml_types.specs.Sound.{IsSoundType}
use Rattle.fml_value.specs.HasType.{HasType}
use Rattle.fml_value.specs.Typed.{TypedValue, truth, whole, text, absent, list, map, variant, object, no_items, no_entries, entries_of}
use Rattle.fml_merge.specs.Overlay.{fields_of, overlay_with}

-- the name that comes first
abbrev pub least : {T : Type 0} → Seq (Seq ℕ × T) → Seq ℕ
least [] = []
least (p ∷ ps) = p.0

-- an enum begins with its least variant, and else there is an object
abbrev pub zero_named : Maybe EnumDefinition → TypedValue → TypedValue
zero_named (Some e) o = variant (least e.variants)
zero_named None o = o

-- the zero of a type, where object_zero gives those of the objects by their names
abbrev pub zero_by : TypeTable → (Seq ℕ → TypedValue) → Shape → TypedValue
zero_by types object_zero shape.boolean = truth false
zero_by types object_zero shape.int = whole (pos 0)
zero_by types object_zero shape.string = text []
zero_by types object_zero shape.text = text []
zero_by types object_zero shape.image = text []
zero_by types object_zero (shape.option t) = absent
zero_by types object_zero (shape.list t) = list no_items
zero_by types object_zero (shape.map k t) = map no_entries
zero_by types object_zero (shape.named name) = zero_named (found name types.enums) (object_zero name)

-- the default of a field, laid over the zero of its type
abbrev pub with_default : (Shape → TypedValue) → TypeTable → Shape → Maybe Tree → TypedValue
with_default zeros types t None = zeros t
with_default zeros types t (Some tree) = overlay_with zeros types t (zeros t) (json_of tree)

-- fields or variables before anything is laid over them
abbrev pub initial : (Shape → TypedValue) → TypeTable → Seq (Seq ℕ × Field) → Seq (Seq ℕ × TypedValue)
initial zeros types fields = over (λ f. (f.0, with_default zeros types (shape_of f.1.field_type) f.1.default)) fields

-- the zero of an object in which objects stand at most so many levels inside one another
abbrev pub object_zero : TypeTable → ℕ → Seq ℕ → TypedValue
object_zero types zero name = object no_entries
object_zero types (suc levels) name = object (entries_of (initial (zero_by types (object_zero types levels)) types (fields_of (found name types.objects))))

abbrev pub zero_within : TypeTable → ℕ → Shape → TypedValue
zero_within types levels = zero_by types (object_zero types levels)

-- no object of a grounded table is higher than 32
abbrev pub zero_of : TypeTable → Shape → TypedValue
zero_of types = zero_within types 32

-- a tree laid over a value of the type
abbrev pub overlay : TypeTable → Shape → TypedValue → Json → TypedValue
overlay types = overlay_with (zero_of types) types

-- the zero of each sound type has the type
abbrev pub HasZeros : TypeTable → Type 0
HasZeros types = (t : Shape) → IsSoundType types t → HasType types t (zero_of types t)
