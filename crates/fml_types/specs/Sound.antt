-- Which tables of types and which manifests are sound: what each manifest that links keeps.
use Rattle.std.specs.Prelude.{◌≡◌, ◌<◌, ℕ, Bool, true, false, ◌&&◌, ◌||◌, not, List, length, Option, Some, None, Ok, ⊤, All, IsTrue, if◌then◌else◌}
use Rattle.std.specs.Option.{option_or}
use Rattle.json_tree.specs.Json.{IsSound}
use Rattle.json_tree.specs.Tree.{json_of}
use Rattle.json_tree.specs.declared.tree.Tree.{Tree}
use Rattle.plain_text.specs.Names.{is_name}
use Rattle.fml_types.specs.Ground.{grounding}
use Rattle.fml_types.specs.Named.{has_name}
use Rattle.fml_types.specs.Shape.{Shape, option, list, map, named}
use Rattle.fml_types.specs.Shapes.{shape_of}
use Rattle.fml_types.specs.TypeTexts.{is_option}
use Rattle.fml_types.specs.declared.manifest.DefaultEntry.{DefaultEntry}
use Rattle.fml_types.specs.declared.manifest.Field.{Field}
use Rattle.fml_types.specs.declared.manifest.Manifest.{Manifest}
use Rattle.fml_types.specs.declared.manifest.TypeTable.{TypeTable}

-- a name that has to be known, where it isn't
abbrev pub where_unknown : List ℕ → Bool → Option (List ℕ)
where_unknown name known = if known then None else Some name

-- the name of a map's key, where it is no enum's
abbrev pub unknown_key : TypeTable → Option (List ℕ) → Option (List ℕ)
unknown_key types None = None
unknown_key types (Some name) = where_unknown name (has_name name types.enums)

-- the first name in a type, from the left, that is neither an enum's nor an object's, or that is a map's key and no enum's
abbrev pub unknown_name : TypeTable → Shape → Option (List ℕ)
unknown_name types (named name) = where_unknown name (has_name name types.enums || has_name name types.objects)
unknown_name types (option s) = unknown_name types s
unknown_name types (list s) = unknown_name types s
unknown_name types (map k s) = option_or (unknown_key types k) (unknown_name types s)
unknown_name types s = None

-- no option stands directly in an option
abbrev pub has_single_options : Shape → Bool
has_single_options (option s) = not (is_option s) && has_single_options s
has_single_options (list s) = has_single_options s
has_single_options (map k s) = has_single_options s
has_single_options s = true

-- a type that a field may have: its names are known
pub record IsSoundType (types : TypeTable) (s : Shape) : Type 0 where
  pub known : unknown_name types s ≡ None
  pub options : IsTrue (has_single_options s)

-- a default that is absent, or a sound JSON value
abbrev pub IsSoundDefault : Option Tree → Type 0
IsSoundDefault None = ⊤
IsSoundDefault (Some tree) = IsSound (json_of tree)

pub record IsSoundField (types : TypeTable) (f : Field) : Type 0 where
  pub of_type : IsSoundType types (shape_of f.field_type)
  pub default : IsSoundDefault f.default

abbrev pub AreSoundFields : TypeTable → List (List ℕ × Field) → Type 0
AreSoundFields types fields = All (λ (f : List ℕ × Field). IsSoundField types f.1) fields

-- the value of each entry is a sound JSON value
abbrev pub AreSoundEntries : List DefaultEntry → Type 0
AreSoundEntries entries = All (λ (e : DefaultEntry). IsSound (json_of e.value)) entries

-- each enum has a variant, no name is both an enum's and an object's, and the objects' fields are sound
pub record IsSoundTable (types : TypeTable) : Type 0 where
  pub variants : All (λ e. 0 < length e.1.variants) types.enums
  pub apart : All (λ e. has_name e.0 types.objects ≡ false) types.enums
  pub fields : All (λ o. AreSoundFields types o.1.fields) types.objects

-- no object is too high or too heavy
abbrev pub IsGrounded : TypeTable → Type 0
IsGrounded types = grounding types ≡ Ok tt

-- a manifest that links
pub record IsSoundManifest (m : Manifest) : Type 0 where
  pub types : IsSoundTable m.types
  pub grounded : IsGrounded m.types
  pub names : All (λ f. IsTrue (is_name f.0)) m.features
  pub variables : All (λ f. AreSoundFields m.types f.1.variables) m.features
  pub defaults : All (λ f. AreSoundEntries f.1.defaults) m.features

-- the types of a table and of the features over it are sound, and no object is too high or too heavy
pub record HasSoundTypes (m : Manifest) : Type 0 where
  pub types : IsSoundTable m.types
  pub grounded : IsGrounded m.types
  pub variables : All (λ f. AreSoundFields m.types f.1.variables) m.features
