-- Which manifests are well formed: what lets a manifest stand in one file, and what each manifest that is read of files has.
use Rattle.std.specs.Prelude.{◌≡◌, ◌≤◌, ◌&&◌, ℕ, Bool, true, List as Seq, [], length, Option as Maybe, Some, None, ⊤, All, IsTrue, nat_le}
use Rattle.json_tree.specs.Json.{depth}
use Rattle.json_tree.specs.Bytes.{text_of}
use Rattle.json_tree.specs.Tree.{json_of}
use Rattle.json_tree.specs.declared.tree.Tree.{Tree}
use Rattle.plain_text.specs.Names.{is_name}
use Rattle.fml_types.specs.Named.{AreRising}
use Rattle.fml_types.specs.Shape.{Shape, option, list, map, named, height}
use Rattle.fml_types.specs.Shapes.{shape_of}
use Rattle.fml_types.specs.Sound.{has_single_options, IsSoundManifest}
use Rattle.fml_types.specs.TypeTexts.{is_type_name}
use Rattle.fml_types.specs.declared.manifest.DefaultEntry.{DefaultEntry}
use Rattle.fml_types.specs.declared.manifest.EnumDefinition.{EnumDefinition}
use Rattle.fml_types.specs.declared.manifest.FeatureDefinition.{FeatureDefinition}
use Rattle.fml_types.specs.declared.manifest.Field.{Field}
use Rattle.fml_types.specs.declared.manifest.Manifest.{Manifest}
use Rattle.fml_types.specs.declared.manifest.ObjectDefinition.{ObjectDefinition}
use Rattle.fml_reader.specs.Features.{in_order}
use Rattle.fml_reader.specs.Values.{is_key}

-- each name in a type is one that a type may have
abbrev pub has_type_names : Shape → Bool
has_type_names (named name) = is_type_name name
has_type_names (option s) = has_type_names s
has_type_names (list s) = has_type_names s
has_type_names (map None s) = has_type_names s
has_type_names (map (Some name) s) = is_type_name name && has_type_names s
has_type_names s = true

-- a type that a text can spell
pub record IsSpelledType (s : Shape) : Type 0 where
  pub names : IsTrue (has_type_names s)
  pub options : IsTrue (has_single_options s)
  pub brackets : height s ≤ 8

-- a default or a value of an entry: at most 65,536 bytes of compact text, of a depth that leaves room for the five values around it
pub record IsShort (t : Tree) : Type 0 where
  pub bytes : IsTrue (nat_le (length (text_of (json_of t))) 65536)
  pub levels : depth (json_of t) ≤ 59

abbrev pub IsShortDefault : Maybe Tree → Type 0
IsShortDefault None = ⊤
IsShortDefault (Some t) = IsShort t

pub record IsWellFormedField (f : Seq ℕ × Field) : Type 0 where
  pub key : IsTrue (is_key f.0)
  pub of_type : IsSpelledType (shape_of f.1.field_type)
  pub default : IsShortDefault f.1.default

abbrev pub AreWellFormedFields : Seq (Seq ℕ × Field) → Type 0
AreWellFormedFields fields = All IsWellFormedField fields

-- the channels of an entry stand in order, each once
abbrev pub AreInOrder : Maybe (Seq (Seq ℕ)) → Type 0
AreInOrder None = ⊤
AreInOrder (Some names) = in_order [] names ≡ names

pub record IsWellFormedEntry (e : DefaultEntry) : Type 0 where
  pub channels : AreInOrder e.channels
  pub value : IsShort e.value

pub record IsWellFormedEnum (e : Seq ℕ × EnumDefinition) : Type 0 where
  pub name : IsTrue (is_name e.0)
  pub variants : All (λ (v : Seq ℕ × Unit {0}). IsTrue (is_key v.0)) e.1.variants

pub record IsWellFormedObject (o : Seq ℕ × ObjectDefinition) : Type 0 where
  pub name : IsTrue (is_name o.0)
  pub fields : AreWellFormedFields o.1.fields

pub record IsWellFormedFeature (f : Seq ℕ × FeatureDefinition) : Type 0 where
  pub variables : AreWellFormedFields f.1.variables
  pub entries : All IsWellFormedEntry f.1.defaults

pub record IsWellFormed (m : Manifest) : Type 0 where
  pub sound : IsSoundManifest m
  pub enums_rise : AreRising m.types.enums
  pub objects_rise : AreRising m.types.objects
  pub features_rise : AreRising m.features
  pub enums : All IsWellFormedEnum m.types.enums
  pub objects : All IsWellFormedObject m.types.objects
  pub features : All IsWellFormedFeature m.features
