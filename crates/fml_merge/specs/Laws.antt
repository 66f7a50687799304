-- Laws of the definitions alone.
use Rattle.std.specs.Prelude.{◌≡◌, ℕ, pos, true, false, List as Seq, [], Some, None}
use Rattle.json_tree.specs.Json as json
use Rattle.json_tree.specs.Json.{Json, IsSound}
use Rattle.fml_types.specs.Named.{found}
use Rattle.fml_types.specs.Shape as shape
use Rattle.fml_types.specs.Shape.{Shape}
use Rattle.fml_types.specs.Sound.{IsSoundTable, IsSoundType, IsGrounded, AreSoundFields, AreSoundEntries}
use Rattle.fml_types.specs.declared.manifest.EnumDefinition.{EnumDefinition}
use Rattle.fml_types.specs.declared.manifest.FeatureDefinition.{FeatureDefinition}
use Rattle.fml_types.specs.declared.manifest.Manifest.{Manifest}
use Rattle.fml_types.specs.declared.manifest.ObjectDefinition.{ObjectDefinition}
use Rattle.fml_types.specs.declared.manifest.TypeTable.{TypeTable}
use Rattle.fml_value.specs.Fits.{type_of_entry, type_of_field}
use Rattle.fml_value.specs.HasType.{HasType}
use Rattle.fml_value.specs.Kinds.{is_null, is_variant}
use Rattle.fml_value.specs.Takes.{takes}
use Rattle.fml_value.specs.Typed.{TypedValue, truth, whole, text, absent, present, list, map, variant, object, no_items, no_entries, entries_of}
use Rattle.fml_merge.specs.Features.{IsOfFeature, default_of, overlay_feature}
use Rattle.fml_merge.specs.Overlay.{held, items_laid, members_laid, pairs_in}
use Rattle.fml_merge.specs.Zero.{least, initial, zero_of, overlay}

-- over sound types that are grounded, the zero of a type has the type, and what is laid over a value of the type has it
abbrev pub ValuesHaveTypes : Type 0
ValuesHaveTypes = (types : TypeTable) (t : Shape) → IsSoundTable types → IsGrounded types → IsSoundType types t
    → HasType types t (zero_of types t) × ((base : TypedValue) (x : Json) → HasType types t base → IsSound x → HasType types t (overlay types t base x))

-- so has the default of a feature, and what is laid over a value of it
abbrev pub FeaturesHaveTypes : Type 0
FeaturesHaveTypes = (m : Manifest) (f : FeatureDefinition) → IsSoundTable m.types → IsGrounded m.types → AreSoundFields m.types f.variables
    → (AreSoundEntries f.defaults → IsOfFeature m f (default_of m f)) × ((base : TypedValue) (x : Json) → IsOfFeature m f base → IsSound x → IsOfFeature m f (overlay_feature m f base x))

-- the zero of each kind of type: of an object, each field's default laid over the zero of its type
pub record ZerosByType (types : TypeTable) : Type 0 where
  pub of_boolean : zero_of types shape.boolean ≡ truth false
  pub of_int : zero_of types shape.int ≡ whole (pos 0)
  pub of_string : zero_of types shape.string ≡ text []
  pub of_text : zero_of types shape.text ≡ text []
  pub of_image : zero_of types shape.image ≡ text []
  pub of_option : (t : Shape) → zero_of types (shape.option t) ≡ absent
  pub of_list : (t : Shape) → zero_of types (shape.list t) ≡ list no_items
  pub of_map : (k : _) (t : Shape) → zero_of types (shape.map k t) ≡ map no_entries
  pub of_enum : (n : Seq ℕ) (e : EnumDefinition) → found n types.enums ≡ Some e → zero_of types (shape.named n) ≡ variant (least e.variants)
  pub of_object : (n : Seq ℕ) (o : ObjectDefinition) → IsGrounded types → found n types.enums ≡ None → found n types.objects ≡ Some o → zero_of types (shape.named n) ≡ object (entries_of (initial (zero_of types) types o.fields))

-- a tree laid over a value of each kind of type
pub record LayingByType (types : TypeTable) : Type 0 where
  pub of_none : (t : Shape) (base : TypedValue) (x : Json) → takes types t x ≡ false → overlay types t base x ≡ base
  pub of_boolean : (base : TypedValue) (b : _) → overlay types shape.boolean base (json.truth b) ≡ truth b
  pub of_int : (base : TypedValue) (n : _) → overlay types shape.int base (json.whole n) ≡ whole n
  pub of_string : (base : TypedValue) (s : Seq ℕ) → overlay types shape.string base (json.text s) ≡ text s
  pub of_text : (base : TypedValue) (s : Seq ℕ) → overlay types shape.text base (json.text s) ≡ text s
  pub of_image : (base : TypedValue) (s : Seq ℕ) → overlay types shape.image base (json.text s) ≡ text s
  pub of_enum : (n : Seq ℕ) (e : EnumDefinition) (base : TypedValue) (s : Seq ℕ) → found n types.enums ≡ Some e → is_variant e s ≡ true → overlay types (shape.named n) base (json.text s) ≡ variant s
  pub of_null : (t : Shape) (base : TypedValue) → overlay types (shape.option t) base json.null ≡ absent
  pub of_option : (t : Shape) (base : TypedValue) (x : Json) → is_null x ≡ false → takes types t x ≡ true → overlay types (shape.option t) base x ≡ present (overlay types t (held base (zero_of types t)) x)
  pub of_list : (t : Shape) (base : TypedValue) (xs : json.Items) → takes types (shape.list t) (json.list xs) ≡ true → overlay types (shape.list t) base (json.list xs) ≡ list (items_laid (zero_of types) types t xs)
  pub of_map : (k : _) (t : Shape) (base : TypedValue) (ms : json.Members)
      → overlay types (shape.map k t) base (json.object ms) ≡ map (entries_of (members_laid (zero_of types) types (type_of_entry types k t) (pairs_in base) ms))
  pub of_object : (n : Seq ℕ) (o : ObjectDefinition) (base : TypedValue) (ms : json.Members) → found n types.enums ≡ None → found n types.objects ≡ Some o
      → overlay types (shape.named n) base (json.object ms) ≡ object (entries_of (members_laid (zero_of types) types (type_of_field o.fields) (pairs_in base) ms))
