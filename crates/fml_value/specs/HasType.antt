-- Which values have a type.
use Rattle.std.specs.Prelude.{◌≡◌, ℕ, FitsSigned, IsUtf8, IsTrue, List, [], ◌∷◌, Option, Some, None, ⊤}
use Rattle.std.specs.Cmp.Lexicographic.{slice_cmp}
use Rattle.std.specs.Int.{w64}
use Rattle.std.specs.Ordering.{nat_cmp}
use Rattle.std.specs.declared.cmp.Ordering.TheVariants.{Less}
use Rattle.fml_types.specs.Named.{found}
use Rattle.fml_types.specs.Shape as shape
use Rattle.fml_types.specs.Shape.{Shape}
use Rattle.fml_types.specs.Shapes.{shape_of}
use Rattle.fml_types.specs.declared.manifest.EnumDefinition.{EnumDefinition}
use Rattle.fml_types.specs.declared.manifest.Field.{Field}
use Rattle.fml_types.specs.declared.manifest.ObjectDefinition.{ObjectDefinition}
use Rattle.fml_types.specs.declared.manifest.TypeTable.{TypeTable}
use Rattle.fml_value.specs.Kinds.{is_variant_of, is_key}
use Rattle.fml_value.specs.Typed.{TypedValue, truth, whole, text, absent, present, list, map, variant, object, TypedItems, no_items, item, TypedEntries, no_entries, entry}

-- the name is below each of these entries'
abbrev pub IsBelow : List ℕ → TypedEntries → Type 0
IsBelow name no_entries = ⊤
IsBelow name (entry other v es) = (slice_cmp nat_cmp name other ≡ Less) × IsBelow name es

-- the names are UTF-8, and rise by their bytes
abbrev pub AreKeys : TypedEntries → Type 0
AreKeys no_entries = ⊤
AreKeys (entry name v es) = IsUtf8 name × IsBelow name es × AreKeys es

-- what is asked of the fields of the object that a name is; an enum's name is no object's
abbrev pub OfObject : Option EnumDefinition → Option ObjectDefinition → (List (List ℕ × Field) → Type 0) → Type 0
OfObject None (Some o) Has = Has o.fields
OfObject e o Has = ⊥

abbrev mutual
  pub HasType : TypeTable → Shape → TypedValue → Type 0
  HasType types shape.boolean (truth b) = ⊤
  HasType types shape.int (whole n) = FitsSigned w64 n
  HasType types shape.string (text s) = IsUtf8 s
  HasType types shape.text (text s) = IsUtf8 s
  HasType types shape.image (text s) = IsUtf8 s
  HasType types (shape.option t) absent = ⊤
  HasType types (shape.option t) (present v) = HasType types t v
  HasType types (shape.list t) (list vs) = HaveType types t vs
  HasType types (shape.map key t) (map es) = AreKeys es × AreEntries types key t es
  HasType types (shape.named name) (variant s) = IsTrue (is_variant_of (found name types.enums) s)
  HasType types (shape.named name) (object es) = OfObject (found name types.enums) (found name types.objects) (λ fields. AreFields types fields es)
  HasType types t v = ⊥

  -- each item has the type
  pub HaveType : TypeTable → Shape → TypedItems → Type 0
  HaveType types t no_items = ⊤
  HaveType types t (item v vs) = HasType types t v × HaveType types t vs

  -- each name is a key of the map, and its value has the type
  pub AreEntries : TypeTable → Option (List ℕ) → Shape → TypedEntries → Type 0
  AreEntries types key t no_entries = ⊤
  AreEntries types key t (entry name v es) = IsTrue (is_key types key name) × HasType types t v × AreEntries types key t es

  -- the entries are exactly these fields, in order, each with a value of its type
  pub AreFields : TypeTable → List (List ℕ × Field) → TypedEntries → Type 0
  AreFields types [] no_entries = ⊤
  AreFields types (f ∷ fs) (entry name v es) = (name ≡ f.0) × HasType types (shape_of f.1.field_type) v × AreFields types fs es
  AreFields types fs es = ⊥
