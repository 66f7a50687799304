-- What each part of the files has, each part of the manifest has that they are joined into.
use Rattle.std.proofs.Common.{◌≡◌, ℕ, true, false, List, [], ◌∷◌, ◌++◌, map, None, Ok, subst}
use Rattle.std.specs.Prelude.{◌||◌, All, bytes_eq, if◌then◌else◌}
use Rattle.std.proofs.lemmas.Bool.{or_parts}
use Rattle.fml_types.specs.Named.{AreRising, has_name, with_name}
use Rattle.fml_types.specs.declared.manifest.DefaultEntry.{DefaultEntry}
use Rattle.fml_types.specs.declared.manifest.EnumDefinition.{EnumDefinition}
use Rattle.fml_types.specs.declared.manifest.FeatureDefinition.{FeatureDefinition}
use Rattle.fml_types.specs.declared.manifest.Field.{Field}
use Rattle.fml_types.specs.declared.manifest.Manifest.{Manifest}
use Rattle.fml_types.specs.declared.manifest.ObjectDefinition.{ObjectDefinition}
use Rattle.fml_reader.specs.declared.imports.Import.{Import}
use Rattle.fml_reader.specs.declared.module.Module.{Module}
use Rattle.fml_imports.specs.Channels.{is_among, is_for, kept_entries, entries_for}
use Rattle.fml_imports.specs.Imports.{first_unknown_import}
use Rattle.fml_imports.specs.Joining.{manifest_with, unknown_override, root_channels, made_of, joined}
use Rattle.fml_imports.specs.Outcome.{each}
use Rattle.fml_imports.specs.Overrides.{import_overrides, file_overrides, overrides_of, entries_over, overridden}
use Rattle.fml_imports.specs.Tables.{Tables, no_tables, with_enum, with_object, with_feature, with_module, tables_of, feature_for, module_for}
use Rattle.fml_imports.specs.declared.fault.JoinRefusal.TheVariants as refusals
use Rattle.fml_imports.specs.declared.joining.Linked.{Linked}
use Rattle.fml_imports.proofs.Alls.{all_nil, all_cons, all_head, all_tail, all_append, all_mapped, all_flat}
use Rattle.fml_imports.proofs.Rising.{rises_with}
use Rattle.fml_imports.proofs.SoundManifests.{bind_ok, each_keeps, all_with, added, checked_ok}

-- what is asked of the parts of a manifest
pub record Asked : Type 1 where
  pub Enum : List ℕ × EnumDefinition → Type 0
  pub Object : List ℕ × ObjectDefinition → Type 0
  pub Variables : List ℕ → List (List ℕ × Field) → Type 0
  pub Entry : DefaultEntry → Type 0

-- a feature's variables and entries have it
pub record Feature (a : Asked) (f : List ℕ × FeatureDefinition) : Type 0 where
  pub variables : a.Variables f.0 f.1.variables
  pub entries : All a.Entry f.1.defaults

-- so do the entries that an import lays over a feature
abbrev pub Override : Asked → List ℕ × List DefaultEntry → Type 0
Override a o = All a.Entry o.1

abbrev pub Imported : Asked → Import → Type 0
Imported a i = All (Override a) i.features

pub record ModuleHas (a : Asked) (m : Module) : Type 0 where
  pub imports : All (Imported a) m.imports
  pub enums : All a.Enum m.enums
  pub types_enums : All a.Enum m.types_enums
  pub objects : All a.Object m.objects
  pub types_objects : All a.Object m.types_objects
  pub features : All (Feature a) m.features

record TablesHave (a : Asked) (t : Tables) : Type 0 where
  pub enums : All a.Enum t.enums
  pub enums_rise : AreRising t.enums
  pub objects : All a.Object t.objects
  pub objects_rise : AreRising t.objects
  pub features : All (Feature a) t.features

pub record ManifestHas (a : Asked) (m : Manifest) : Type 0 where
  pub enums : All a.Enum m.types.enums
  pub enums_rise : AreRising m.types.enums
  pub objects : All a.Object m.types.objects
  pub objects_rise : AreRising m.types.objects
  pub features : All (Feature a) m.features

-- what is asked of an entry doesn't turn on its channels
module _ (a : Asked) (without_channels : (e : DefaultEntry) → a.Entry e → a.Entry (record e { channels = None })) where
  -- ---- entries that count, and overrides

  kept_have : (channel : List ℕ) (es : List DefaultEntry) → All a.Entry es → All a.Entry (kept_entries channel es)
  kept_have channel [] have = have
  kept_have channel (e ∷ es) have =
      let rest = kept_have channel es (all_tail a.Entry e es have) in
      let one = without_channels e (all_head a.Entry e es have) in
      elim (is_for channel e.channels) as (λ b. All a.Entry ((if b then record e { channels = None } ∷ [] else []) ++ kept_entries channel es)) [
        | true ↦ all_cons a.Entry (record e { channels = None }) (kept_entries channel es) one rest
        | false ↦ rest
      ]

  entries_have : (asked channel : List ℕ) (es : List DefaultEntry) → All a.Entry es → All a.Entry (entries_for asked channel es)
  entries_have asked channel es have = elim (bytes_eq channel asked) as (λ b. All a.Entry (if b then es else kept_entries channel es)) [ true ↦ have | false ↦ kept_have channel es have ]

  feature_has : (asked channel : List ℕ) (f : List ℕ × FeatureDefinition) → Feature a f → Feature a (feature_for asked channel f)
  feature_has asked channel f have = record { variables = have.variables; entries = entries_have asked channel f.1.defaults have.entries }

  import_has : (asked channel : List ℕ) (i : Import) → Imported a i → All (Override a) (import_overrides asked channel i)
  import_has asked channel i have =
      all_mapped (Override a) (Override a) (λ (o : List ℕ × List DefaultEntry). (o.0, entries_for asked channel o.1)) i.features (λ (o : List ℕ × List DefaultEntry) (one : Override a o). entries_have asked channel o.1 one) have

  overrides_have : (asked : List ℕ) (files : List Linked) → All (λ (f : Linked). ModuleHas a f.module) files → All (Override a) (overrides_of asked files)
  overrides_have asked files have =
      all_flat (λ (f : Linked). ModuleHas a f.module) (Override a) (file_overrides asked) files
      (λ (f : Linked) (one : ModuleHas a f.module). all_flat (Imported a) (Override a) (import_overrides asked f.channel) f.module.imports (import_has asked f.channel) one.imports) have

  over_have : (name : List ℕ) (os : List (List ℕ × List DefaultEntry)) → All (Override a) os → All a.Entry (entries_over name os)
  over_have name [] have = all_nil a.Entry
  over_have name (o ∷ os) have =
      let rest = over_have name os (all_tail (Override a) o os have) in
      let first = all_head (Override a) o os have in
      elim (bytes_eq o.0 name) as (λ b. All a.Entry (if b then o.1 ++ entries_over name os else entries_over name os)) [
        | true ↦ all_append a.Entry o.1 (entries_over name os) first rest
        | false ↦ rest
      ]

  -- ---- the tables

  enum_keeps : (t u : Tables) (e : List ℕ × EnumDefinition) → TablesHave a t → a.Enum e → with_enum t e ≡ Ok u → TablesHave a u
  enum_keeps t u e have one h =
      let new = added (has_name e.0 t.enums || has_name e.0 t.objects) (refusals.DuplicateName e.0) (record t { enums = with_name e t.enums }) u h in
      subst (TablesHave a) new.1 (record {
        enums = all_with a.Enum e t.enums one have.enums;
        enums_rise = rises_with e t.enums (or_parts (has_name e.0 t.enums) (has_name e.0 t.objects) new.0).0 have.enums_rise;
        objects = have.objects;
        objects_rise = have.objects_rise;
        features = have.features;
      })

  object_keeps : (t u : Tables) (o : List ℕ × ObjectDefinition) → TablesHave a t → a.Object o → with_object t o ≡ Ok u → TablesHave a u
  object_keeps t u o have one h =
      let new = added (has_name o.0 t.enums || has_name o.0 t.objects) (refusals.DuplicateName o.0) (record t { objects = with_name o t.objects }) u h in
      subst (TablesHave a) new.1 (record {
        enums = have.enums;
        enums_rise = have.enums_rise;
        objects = all_with a.Object o t.objects one have.objects;
        objects_rise = rises_with o t.objects (or_parts (has_name o.0 t.enums) (has_name o.0 t.objects) new.0).1 have.objects_rise;
        features = have.features;
      })

  feature_keeps : (t u : Tables) (f : List ℕ × FeatureDefinition) → TablesHave a t → Feature a f → with_feature t f ≡ Ok u → TablesHave a u
  feature_keeps t u f have one h =
      let new = added (has_name f.0 t.features) (refusals.DuplicateName f.0) (record t { features = with_name f t.features }) u h in
      subst (TablesHave a) new.1 (record {
        enums = have.enums;
        enums_rise = have.enums_rise;
        objects = have.objects;
        objects_rise = have.objects_rise;
        features = all_with (Feature a) f t.features one have.features;
      })

  module_keeps : (t u : Tables) (m : Module) → TablesHave a t → ModuleHas a m → with_module t m ≡ Ok u → TablesHave a u
  unfolding with_module
  module_keeps t u m have read h =
      let b = bind_ok (each with_enum t m.enums) _ u h in
      let c = bind_ok (each with_enum b.0 m.types_enums) _ u b.2 in
      let d = bind_ok (each with_object c.0 m.objects) _ u c.2 in
      let e = bind_ok (each with_object d.0 m.types_objects) _ u d.2 in
      let have_b = each_keeps (TablesHave a) a.Enum with_enum enum_keeps m.enums t b.0 read.enums have b.1 in
      let have_c = each_keeps (TablesHave a) a.Enum with_enum enum_keeps m.types_enums b.0 c.0 read.types_enums have_b c.1 in
      let have_d = each_keeps (TablesHave a) a.Object with_object object_keeps m.objects c.0 d.0 read.objects have_c d.1 in
      let have_e = each_keeps (TablesHave a) a.Object with_object object_keeps m.types_objects d.0 e.0 read.types_objects have_d e.1 in
      each_keeps (TablesHave a) (Feature a) with_feature feature_keeps m.features e.0 u read.features have_e e.2

  none_have : TablesHave a no_tables
  none_have = record { enums = all_nil a.Enum; enums_rise = tt; objects = all_nil a.Object; objects_rise = tt; features = all_nil (Feature a) }

  tables_have : (modules : List Module) (t : Tables) → All (ModuleHas a) modules → tables_of modules ≡ Ok t → TablesHave a t
  tables_have modules t read h = each_keeps (TablesHave a) (ModuleHas a) with_module module_keeps modules no_tables t read none_have h

  module_for_has : (asked : List ℕ) (f : Linked) → ModuleHas a f.module → ModuleHas a (module_for asked f)
  module_for_has asked f read = record {
    imports = read.imports;
    enums = read.enums;
    types_enums = read.types_enums;
    objects = read.objects;
    types_objects = read.types_objects;
    features = all_mapped (Feature a) (Feature a) (feature_for asked f.channel) f.module.features (feature_has asked f.channel) read.features;
  }

  -- ---- the manifest

  overridden_has : (os : List (List ℕ × List DefaultEntry)) → All (Override a) os → (f : List ℕ × FeatureDefinition) → Feature a f → Feature a (overridden os f)
  overridden_has os over f have = record { variables = have.variables; entries = all_append a.Entry f.1.defaults (entries_over f.0 os) have.entries (over_have f.0 os over) }

  made_has : (t : Tables) (os : List (List ℕ × List DefaultEntry)) (channel : List ℕ) → TablesHave a t → All (Override a) os → ManifestHas a (manifest_with t os channel)
  made_has t os channel have over = record {
    enums = have.enums;
    enums_rise = have.enums_rise;
    objects = have.objects;
    objects_rise = have.objects_rise;
    features = all_mapped (Feature a) (Feature a) (overridden os) t.features (overridden_has os over) have.features;
  }

  pub joined_has : (files : List Linked) (channel : List ℕ) (m : Manifest) → All (λ (f : Linked). ModuleHas a f.module) files → joined files channel ≡ Ok m → ManifestHas a m
  unfolding joined
  joined_has files channel m modules h =
      let t = bind_ok (tables_of (map (module_for channel) files)) (λ t. made_of t (overrides_of channel files) files channel) m h in
      let made = checked_ok (manifest_with t.0 (overrides_of channel files) channel) m (is_among channel (root_channels files)) (first_unknown_import files) (unknown_override (overrides_of channel files) t.0) t.2 in
      let have = tables_have (map (module_for channel) files) t.0 (all_mapped (λ (f : Linked). ModuleHas a f.module) (ModuleHas a) (module_for channel) files (module_for_has channel) modules) t.1 in
      subst (ManifestHas a) made.2 (made_has t.0 (overrides_of channel files) channel have (overrides_have channel files modules))
