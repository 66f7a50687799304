-- How the entries of a value and the members of a tree are gone through side by side.
use Rattle.std.specs.Prelude.{ℕ, suc, Bool, false, List as Seq, [], ◌∷◌, map as over, Option as Maybe, Some, None, option_map, bytes_eq, if◌then◌else◌}
use Rattle.std.specs.Cmp.Lexicographic.{slice_cmp}
use Rattle.std.specs.Ordering.{nat_cmp, is_lt}
use Rattle.json_tree.specs.Json as json
use Rattle.json_tree.specs.Json.{Json}
use Rattle.fml_types.specs.Named.{found}
use Rattle.fml_types.specs.Shape as shape
use Rattle.fml_types.specs.Shape.{Shape}
use Rattle.fml_types.specs.Shapes.{shape_of, key_of}
use Rattle.fml_types.specs.declared.manifest.EnumDefinition.{EnumDefinition}
use Rattle.fml_types.specs.declared.manifest.Field.{Field}
use Rattle.fml_types.specs.declared.manifest.ObjectDefinition.{ObjectDefinition}
use Rattle.fml_types.specs.declared.manifest.TypeTable.{TypeTable}
use Rattle.fml_value.specs.Fits.{type_of_entry, type_of_field}
use Rattle.fml_value.specs.Takes.{takes}
use Rattle.fml_value.specs.Typed.{TypedValue, absent, present}
use Rattle.fml_value.specs.TypedOf.{typed_of, entry_of}
use Rattle.fml_merge.specs.Overlay.{laid, with_member, overlay_with}
use Rattle.fml_merge.specs.Zero.{zero_within}
use Rattle.fml_merge.specs.declared.merging.Merge.{Merge}
use Rattle.fml_merge.specs.declared.parts.Base.{Base}
use Rattle.fml_merge.specs.declared.parts.Base.TheVariants as base
use Rattle.fml_merge.specs.declared.parts.MemberTypes.{MemberTypes}
use Rattle.fml_merge.specs.declared.parts.MemberTypes.TheVariants as member

-- the value that a tree is laid over
abbrev pub base_value : TypeTable → Shape → Base → TypedValue
base_value types t (base.Made v) = typed_of v
base_value types t (base.Zero levels) = zero_within types levels t

-- the fields of the object of a name that is no enum's
abbrev pub object_fields : Maybe EnumDefinition → Maybe ObjectDefinition → Maybe (Seq (Seq ℕ × Field))
object_fields (Some e) o = None
object_fields None o = option_map (λ (d : ObjectDefinition). d.fields) o

-- the fields that the zero of a type has, with at most so many levels of objects
abbrev pub zero_fields : TypeTable → Shape → ℕ → Maybe (Seq (Seq ℕ × Field))
zero_fields types (shape.named n) (suc levels) = object_fields (found n types.enums) (found n types.objects)
zero_fields types t levels = None

-- a tree, where there is one that the type takes, laid over a value of it
abbrev pub field_laid : (Shape → TypedValue) → TypeTable → Shape → TypedValue → Maybe Json → TypedValue
field_laid zeros types t base None = base
field_laid zeros types t base (Some x) = overlay_with zeros types t base x

-- a tree laid over what an Option holds
abbrev pub inside_laid : (Shape → TypedValue) → TypeTable → Shape → TypedValue → Json → TypedValue
inside_laid zeros types t base json.null = absent
inside_laid zeros types t base json.odd = absent
inside_laid zeros types t base x = present (laid zeros types t base x)

-- the types that names have
abbrev pub types_of : TypeTable → MemberTypes → Seq ℕ → Maybe Shape
types_of types member.Nothing name = None
types_of types (member.Entries key of) name = type_of_entry types (key_of key.now) (shape_of of.now) name
types_of types (member.Fields fields) name = type_of_field fields.now name

-- a member laid over the entries: over the one of its name, or over zero where there is none
abbrev pub named_laid : (Shape → TypedValue) → TypeTable → (Seq ℕ → Maybe Shape) → Seq ℕ → Json → Seq (Seq ℕ × TypedValue) → Seq (Seq ℕ × TypedValue)
named_laid zeros types type_of name x es = with_member zeros (λ t. takes types t x) (λ t v. laid zeros types t v x) name (type_of name) es

-- a member laid over the entry of its name, where there is one
abbrev pub member_laid : (Shape → TypedValue) → TypeTable → (Seq ℕ → Maybe Shape) → Seq ℕ → Json → Seq (Seq ℕ × TypedValue) → Seq (Seq ℕ × TypedValue)
member_laid zeros types type_of name x = with_member zeros (λ t. takes types t x) (λ t v. laid zeros types t v x) name (type_of name)

-- the first pair is below the name; it has the name
abbrev pub is_below : {T : Type 0} → Seq ℕ → Seq (Seq ℕ × T) → Bool
is_below name [] = false
is_below name (p ∷ ps) = is_lt (slice_cmp nat_cmp p.0 name)

abbrev pub is_named : {T : Type 0} → Seq ℕ → Seq (Seq ℕ × T) → Bool
is_named name [] = false
is_named name (p ∷ ps) = bytes_eq p.0 name

-- the pairs below a name that come first, and those that follow them
abbrev pub lower : {T : Type 0} → Seq ℕ → Seq (Seq ℕ × T) → Seq (Seq ℕ × T)
lower name [] = []
lower name (p ∷ ps) = if is_lt (slice_cmp nat_cmp p.0 name) then p ∷ lower name ps else []

abbrev pub upper : {T : Type 0} → Seq ℕ → Seq (Seq ℕ × T) → Seq (Seq ℕ × T)
upper name [] = []
upper name (p ∷ ps) = if is_lt (slice_cmp nat_cmp p.0 name) then upper name ps else p ∷ ps

-- the first pair, where it has the name, and those that follow it
abbrev pub named : {T : Type 0} → Seq ℕ → Seq (Seq ℕ × T) → Seq (Seq ℕ × T)
named name [] = []
named name (p ∷ ps) = if bytes_eq p.0 name then p ∷ [] else []

abbrev pub unnamed : {T : Type 0} → Seq ℕ → Seq (Seq ℕ × T) → Seq (Seq ℕ × T)
unnamed name [] = []
unnamed name (p ∷ ps) = if bytes_eq p.0 name then ps else p ∷ ps

-- the entries that are merged already, and those that are left
abbrev pub merged_in : Merge → Seq (Seq ℕ × TypedValue)
merged_in m = over entry_of m.merged.items

abbrev pub left_in : Merge → Seq (Seq ℕ × TypedValue)
left_in m = over entry_of m.left.items
