-- The search for the value whose tree a tree is.
use Rattle.std.specs.Prelude.{◌≡◌, ℕ, List, Option, Some, None, if◌then◌else◌}
use Rattle.json_tree.specs.Json as json
use Rattle.json_tree.specs.Json.{Json}
use Rattle.fml_types.specs.Shape as shape
use Rattle.fml_types.specs.Shape.{Shape}
use Rattle.fml_types.specs.declared.manifest.EnumDefinition.{EnumDefinition}
use Rattle.fml_types.specs.declared.manifest.Field.{Field}
use Rattle.fml_types.specs.declared.manifest.TypeTable.{TypeTable}
use Rattle.fml_value.specs.HasType.{HaveType, AreEntries, AreFields}
use Rattle.fml_value.specs.Kinds.{is_variant}
use Rattle.fml_value.specs.Trees.{trees_of, members_of}
use Rattle.fml_value.specs.Typed.{TypedValue, truth, whole, text, absent, present, variant, TypedItems, TypedEntries}

-- what is found is one that is so; where nothing is found, none is so
abbrev pub Finds : {A : Type 0} → (A → Type 0) → Option A → Type 0
Finds P (Some a) = P a
Finds P None = (a : _) → P a → ⊥

-- the items have the type, and these are their trees
abbrev pub AreItemsOf : TypeTable → Shape → json.Items → TypedItems → Type 0
AreItemsOf types t xs vs = HaveType types t vs × (trees_of vs ≡ xs)

-- the entries are a map's, and these are their trees
abbrev pub AreEntriesOf : TypeTable → Option (List ℕ) → Shape → json.Members → TypedEntries → Type 0
AreEntriesOf types key t ms es = AreEntries types key t es × (members_of es ≡ ms)

-- the entries are the fields of an object, and these are their trees
abbrev pub AreFieldsOf : TypeTable → List (List ℕ × Field) → json.Members → TypedEntries → Type 0
AreFieldsOf types fields ms es = AreFields types fields es × (members_of es ≡ ms)

-- a value of Boolean
abbrev pub truth_in : Json → Option TypedValue
truth_in (json.truth b) = Some (truth b)
truth_in x = None

-- a value of Int
abbrev pub whole_in : Json → Option TypedValue
whole_in (json.whole n) = Some (whole n)
whole_in x = None

-- a value of a type of texts
abbrev pub text_in : Json → Option TypedValue
text_in (json.text s) = Some (text s)
text_in x = None

-- a value of an enum
abbrev pub variant_in : EnumDefinition → Json → Option TypedValue
variant_in e (json.text s) = if is_variant e s then Some (variant s) else None
variant_in e x = None

-- a value whose tree is null
abbrev pub null_in : Shape → Option TypedValue
null_in (shape.option t) = Some absent
null_in t = None

-- a value of the type inside the options, present in each of them
abbrev pub wrapped : Shape → TypedValue → TypedValue
wrapped (shape.option t) v = present (wrapped t v)
wrapped t v = v
