-- What a layering lays: with the zeros of its types, in which objects stand at most so many levels inside one another.
use Rattle.std.specs.Borrow.{Bor}
use Rattle.std.specs.Prelude.{◌≡◌, ◌≤◌, ◌++◌, ℕ, List as Seq, map as over, Option as Maybe, option_map}
use Rattle.json_tree.specs.Json as json
use Rattle.json_tree.specs.Json.{Json, members_of}
use Rattle.json_tree.specs.Tree.{json_of}
use Rattle.json_tree.specs.declared.tree.Tree.{Tree}
use Rattle.fml_types.specs.Shape.{Shape}
use Rattle.fml_types.specs.Shapes.{shape_of}
use Rattle.fml_types.specs.declared.field_type.FieldType.{FieldType}
use Rattle.fml_types.specs.declared.manifest.Field.{Field}
use Rattle.fml_types.specs.declared.manifest.TypeTable.{TypeTable}
use Rattle.fml_value.specs.Typed.{TypedValue, TypedItems}
use Rattle.fml_merge.specs.Layers.{trees_laid, replaced_by, objects_laid, layers_laid, run_laid, depth_of, objects_depth}
use Rattle.fml_merge.specs.Merging.{base_value, field_laid, inside_laid, named_laid, types_of, merged_in, left_in, lower, upper, named}
use Rattle.fml_merge.specs.Overlay.{laid, items_laid, members_laid, pairs_in, type_under}
use Rattle.fml_merge.specs.Zero.{initial, with_default, zero_within}
use Rattle.fml_merge.specs.declared.laying.Layering.{Layering}
use Rattle.fml_merge.specs.declared.merging.Merge.{Merge}
use Rattle.fml_merge.specs.declared.parts.Base.{Base}
use Rattle.fml_merge.specs.declared.parts.MemberTypes.{MemberTypes}
use Rattle.fml_merge.specs.declared.runs.Counted.{Counted}
use Rattle.fml_merge.specs.declared.sorting.Piece.{Piece}

-- ---- what there is

-- the zero of each type
abbrev pub zeros : Layering → Shape → TypedValue
zeros l = zero_within l.types.now l.levels

-- the value of a base of this type, and the names that it has
abbrev pub value_of : Layering → FieldType → Base → TypedValue
value_of l of base = base_value l.types.now (shape_of of) base

abbrev pub base_pairs : Layering → FieldType → Base → Seq (Seq ℕ × TypedValue)
base_pairs l of base = pairs_in (value_of l of base)

-- the trees of pieces
abbrev pub trees_of : Seq Piece → Seq Json
trees_of pieces = over (λ (p : Piece). json_of p.tree.now) pieces

-- the members of a layer, and of layers
abbrev pub members_in : Bor (Seq (Seq ℕ × Json)) → json.Members
members_in ms = members_of ms.now

abbrev pub layers_of : Seq (Bor (Seq (Seq ℕ × Json))) → Seq json.Members
layers_of layers = over members_in layers

-- ---- trees

-- a tree laid over a value
abbrev pub tree_over : Layering → FieldType → TypedValue → Tree → TypedValue
tree_over l of v tree = laid (zeros l) l.types.now (shape_of of) v (json_of tree)

-- a tree laid over the zero of the type
abbrev pub tree_over_zero : Layering → FieldType → Tree → TypedValue
tree_over_zero l of tree = tree_over l of (zeros l (shape_of of)) tree

-- a tree laid over an Option that holds nothing
abbrev pub tree_inside : Layering → Shape → Tree → TypedValue
tree_inside l t tree = inside_laid (zeros l) l.types.now t (zeros l t) (json_of tree)

abbrev pub items_over_zero : Layering → FieldType → Seq Json → TypedItems
items_over_zero l of xs = items_laid (zeros l) l.types.now (shape_of of) (json.items_of xs)

-- trees laid over a value one after the other: each that the type takes, or objects that it takes
abbrev pub trees_over : Layering → FieldType → TypedValue → Seq Piece → TypedValue
trees_over l of v pieces = trees_laid (zeros l) l.types.now (shape_of of) v (trees_of pieces)

abbrev pub objects_over : Layering → FieldType → TypedValue → Seq (Bor (Seq (Seq ℕ × Json))) → TypedValue
objects_over l of v layers = objects_laid (zeros l) l.types.now (shape_of of) v (layers_of layers)

-- objects laid over a value, or over a tree that is laid in its place
abbrev pub replaced_over : Layering → FieldType → TypedValue → Maybe (Bor Tree) → Seq (Bor (Seq (Seq ℕ × Json))) → TypedValue
replaced_over l of v replacing layers = objects_over l of (replaced_by (zeros l) l.types.now (shape_of of) v (option_map (λ (u : Bor Tree). json_of u.now) replacing)) layers

-- what counts of trees, laid over a value
abbrev pub counted_over : (Shape → TypedValue) → TypeTable → Shape → TypedValue → Counted → TypedValue
counted_over zeros types t v c = objects_laid zeros types t (replaced_by zeros types t v (option_map (λ (u : Bor Tree). json_of u.now) c.replacing)) (layers_of c.objects.items)

-- laying what counts of these trees over a value is laying all of them
abbrev pub CountsOf : (Shape → TypedValue) → TypeTable → FieldType → TypedValue → Seq Piece → Counted → Type 0
CountsOf z types of v pieces c = counted_over z types (shape_of of) v c ≡ trees_laid z types (shape_of of) v (trees_of pieces)

-- what counts is no deeper than this
pub record IsWithin (c : Counted) (most : ℕ) : Type 0 where
  pub replacing : depth_of (option_map (λ (u : Bor Tree). json_of u.now) c.replacing) ≤ most
  pub objects : objects_depth (layers_of c.objects.items) ≤ most

-- ---- members

-- members laid over names of these types, and one member
abbrev pub members_over : Layering → (Seq ℕ → Maybe Shape) → Seq (Seq ℕ × TypedValue) → Seq (Seq ℕ × Json) → Seq (Seq ℕ × TypedValue)
members_over l type_of es ms = members_laid (zeros l) l.types.now type_of es (members_of ms)

abbrev pub member_over : Layering → MemberTypes → Seq (Seq ℕ × TypedValue) → Seq ℕ → Tree → Seq (Seq ℕ × TypedValue)
member_over l member_types es name tree = named_laid (zeros l) l.types.now (types_of l.types.now member_types) name (json_of tree) es

-- layers of members laid over names one after the other, and what they have under one name
abbrev pub layers_over : Layering → (Seq ℕ → Maybe Shape) → Seq (Seq ℕ × TypedValue) → Seq (Bor (Seq (Seq ℕ × Json))) → Seq (Seq ℕ × TypedValue)
layers_over l type_of es layers = layers_laid (zeros l) l.types.now type_of es (layers_of layers)

abbrev pub run_over : Layering → MemberTypes → Seq ℕ → Seq Piece → Seq (Seq ℕ × TypedValue) → Seq (Seq ℕ × TypedValue)
run_over l member_types name pieces es = run_laid (zeros l) l.types.now (types_of l.types.now member_types) name (trees_of pieces) es

-- members, and what layers have under one name, merged into the entries that are left
abbrev pub all_merged : Layering → MemberTypes → Merge → Seq (Seq ℕ × Json) → Seq (Seq ℕ × TypedValue)
all_merged l member_types m pieces = merged_in m ++ members_laid (zeros l) l.types.now (types_of l.types.now member_types) (left_in m) (members_of pieces)

abbrev pub run_merged : Layering → MemberTypes → Merge → Seq ℕ → Seq Piece → Seq (Seq ℕ × TypedValue)
run_merged l member_types m name pieces = (merged_in m ++ lower name (left_in m)) ++ run_over l member_types name pieces (named name (upper name (left_in m)))

-- the types of names that a layering lays over, and of those in a map or an object
abbrev pub types_among : Layering → MemberTypes → Seq ℕ → Maybe Shape
types_among l member_types = types_of l.types.now member_types

abbrev pub types_under : Layering → FieldType → Seq ℕ → Maybe Shape
types_under l of = type_under l.types.now (shape_of of)

-- ---- fields

-- the initial values of fields, and of one
abbrev pub initial_values : Layering → Seq (Seq ℕ × Field) → Seq (Seq ℕ × TypedValue)
initial_values l fields = initial (zeros l) l.types.now fields

abbrev pub initial_value : Layering → Field → TypedValue
initial_value l field = with_default (zeros l) l.types.now (shape_of field.field_type) field.default

-- a tree laid over a field's initial value, whose zeros have at most so many levels
abbrev pub field_over : Layering → ℕ → Field → Maybe (Bor Tree) → TypedValue
field_over l levels field tree =
    field_laid (zeros l) l.types.now (shape_of field.field_type) (with_default (zero_within l.types.now levels) l.types.now (shape_of field.field_type) field.default) (option_map (λ (u : Bor Tree). json_of u.now) tree)

-- a tree laid over the base is the tree laid over the field's initial value, whose zeros have at most so many levels
abbrev pub StandsFor : (Shape → TypedValue) → TypeTable → ℕ → Field → Tree → Base → Type 0
StandsFor z types levels field tree b =
    laid z types (shape_of field.field_type) (base_value types (shape_of field.field_type) b) (json_of tree)
    ≡ laid z types (shape_of field.field_type) (with_default (zero_within types levels) types (shape_of field.field_type) field.default) (json_of tree)
