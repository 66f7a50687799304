-- What each file that is read keeps.
use Rattle.std.specs.Prelude.{◌≡◌, ◌≤◌, ℕ, ◌<◌, List as Seq, length, Ok, All, IsTrue}
use Rattle.json_tree.specs.Json.{Json, IsSound, depth}
use Rattle.plain_text.specs.Names.{is_name}
use Rattle.fml_types.specs.Shapes.{shape_of}
use Rattle.fml_types.specs.Sound.{has_single_options, AreSoundEntries, IsSoundDefault}
use Rattle.fml_types.specs.declared.manifest.DefaultEntry.{DefaultEntry}
use Rattle.fml_types.specs.declared.manifest.EnumDefinition.{EnumDefinition}
use Rattle.fml_types.specs.declared.manifest.ObjectDefinition.{ObjectDefinition}
use Rattle.fml_types.specs.declared.manifest.FeatureDefinition.{FeatureDefinition}
use Rattle.fml_types.specs.declared.manifest.Field.{Field}
use Rattle.fml_reader.specs.Modules.{module_of}
use Rattle.fml_reader.specs.declared.imports.Import.{Import}
use Rattle.fml_reader.specs.declared.module.Module.{Module}
use Rattle.fml_imports.specs.declared.joining.Linked.{Linked}

-- the module of a sound JSON value that nests at most 64 deep
pub record IsRead (m : Module) : Type 0 where
  pub tree : Json
  pub sound : IsSound tree
  pub shallow : depth tree ≤ 64
  pub reads : module_of tree ≡ Ok m

abbrev pub AreRead : Seq Linked → Type 0
AreRead files = All (λ (f : Linked). IsRead f.module) files

-- no option stands directly in an option, and a default is a sound JSON value
pub record IsReadField (f : Field) : Type 0 where
  pub options : IsTrue (has_single_options (shape_of f.field_type))
  pub default : IsSoundDefault f.default

abbrev pub AreReadFields : Seq (Seq ℕ × Field) → Type 0
AreReadFields fields = All (λ (f : Seq ℕ × Field). IsReadField f.1) fields

-- each enum has a variant
abbrev pub HaveVariants : Seq (Seq ℕ × EnumDefinition) → Type 0
HaveVariants enums = All (λ (e : Seq ℕ × EnumDefinition). 0 < length e.1.variants) enums

abbrev pub HaveReadFields : Seq (Seq ℕ × ObjectDefinition) → Type 0
HaveReadFields objects = All (λ (o : Seq ℕ × ObjectDefinition). AreReadFields o.1.fields) objects

abbrev pub HaveNames : Seq (Seq ℕ × FeatureDefinition) → Type 0
HaveNames features = All (λ (f : Seq ℕ × FeatureDefinition). IsTrue (is_name f.0)) features

abbrev pub HaveReadVariables : Seq (Seq ℕ × FeatureDefinition) → Type 0
HaveReadVariables features = All (λ (f : Seq ℕ × FeatureDefinition). AreReadFields f.1.variables) features

abbrev pub HaveSoundEntries : Seq (Seq ℕ × FeatureDefinition) → Type 0
HaveSoundEntries features = All (λ (f : Seq ℕ × FeatureDefinition). AreSoundEntries f.1.defaults) features

-- the entries that an import lays over features
abbrev pub HaveSoundOverrides : Seq (Seq ℕ × Seq DefaultEntry) → Type 0
HaveSoundOverrides overrides = All (λ (o : Seq ℕ × Seq DefaultEntry). AreSoundEntries o.1) overrides

pub record IsReadModule (m : Module) : Type 0 where
  pub imports : All (λ (i : Import). HaveSoundOverrides i.features) m.imports
  pub variants : HaveVariants m.enums
  pub types_variants : HaveVariants m.types_enums
  pub fields : HaveReadFields m.objects
  pub types_fields : HaveReadFields m.types_objects
  pub names : HaveNames m.features
  pub variables : HaveReadVariables m.features
  pub entries : HaveSoundEntries m.features
