-- Which trees fit a type: those that spell a value of it whole, but for fields left out.
use Rattle.std.specs.Prelude.{ℕ, Bool, true, false, ◌&&◌, List, Option, Some, None, option_map, if◌then◌else◌}
use Rattle.json_tree.specs.Json as json
use Rattle.json_tree.specs.Json.{Json, Items, Members}
use Rattle.fml_types.specs.Named.{found}
use Rattle.fml_types.specs.Shape.{Shape, boolean, int, string, text, image, option, list, map, named}
use Rattle.fml_types.specs.Shapes.{shape_of}
use Rattle.fml_types.specs.declared.manifest.EnumDefinition.{EnumDefinition}
use Rattle.fml_types.specs.declared.manifest.Field.{Field}
use Rattle.fml_types.specs.declared.manifest.ObjectDefinition.{ObjectDefinition}
use Rattle.fml_types.specs.declared.manifest.TypeTable.{TypeTable}
use Rattle.fml_value.specs.Kinds.{is_variant_of, is_key}

abbrev pub is_option : Shape → Bool
is_option (option s) = true
is_option s = false

-- the type inside an Option, and each other type itself
abbrev pub bare : Shape → Shape
bare (option s) = bare s
bare s = s

abbrev pub is_boolean : Shape → Bool
is_boolean boolean = true
is_boolean s = false

abbrev pub is_int : Shape → Bool
is_int int = true
is_int s = false

-- the three types of texts have each text, an enum its variants
abbrev pub is_text_of : TypeTable → Shape → List ℕ → Bool
is_text_of types string t = true
is_text_of types text t = true
is_text_of types image t = true
is_text_of types (named n) t = is_variant_of (found n types.enums) t
is_text_of types s t = false

-- what is asked of a list, of the type of its items
abbrev pub of_list : Shape → (Shape → Bool) → Bool
of_list (list s) fit = fit s
of_list s fit = false

-- the type of the values of a map, where the key is one of its keys
abbrev pub type_of_entry : TypeTable → Option (List ℕ) → Shape → List ℕ → Option Shape
type_of_entry types k s key = if is_key types k key then Some s else None

-- the type of an object's field of this name
abbrev pub type_of_field : List (List ℕ × Field) → List ℕ → Option Shape
type_of_field fields name = option_map (λ (f : Field). shape_of f.field_type) (found name fields)

abbrev pub of_named : Option EnumDefinition → Option ObjectDefinition → ((List ℕ → Option Shape) → Bool) → Bool
of_named (Some e) o fit = false
of_named None None fit = false
of_named None (Some o) fit = fit (type_of_field o.fields)

-- what is asked of an object, of the types of its members by their keys
abbrev pub of_object : TypeTable → Shape → ((List ℕ → Option Shape) → Bool) → Bool
of_object types (map k s) fit = fit (type_of_entry types k s)
of_object types (named n) fit = of_named (found n types.enums) (found n types.objects) fit
of_object types s fit = false

-- what is asked of a member, of the type that stands for its key
abbrev pub of_member : Option Shape → (Shape → Bool) → Bool
of_member None fit = false
of_member (Some s) fit = fit s

abbrev mutual
  pub fits : TypeTable → Shape → Json → Bool
  fits types s json.null = is_option s
  fits types s (json.truth b) = is_boolean (bare s)
  fits types s (json.whole n) = is_int (bare s)
  fits types s json.odd = false
  fits types s (json.text t) = is_text_of types (bare s) t
  fits types s (json.list xs) = of_list (bare s) (λ item. items_fit types item xs)
  fits types s (json.object ms) = of_object types (bare s) (λ type_of. members_fit types type_of ms)

  -- each item fits the type
  pub items_fit : TypeTable → Shape → Items → Bool
  items_fit types s json.no_items = true
  items_fit types s (json.item x xs) = fits types s x && items_fit types s xs

  -- each member's key has a type, which its value fits
  pub members_fit : TypeTable → (List ℕ → Option Shape) → Members → Bool
  members_fit types type_of json.no_members = true
  members_fit types type_of (json.member k x ms) = of_member (type_of k) (λ s. fits types s x) && members_fit types type_of ms
