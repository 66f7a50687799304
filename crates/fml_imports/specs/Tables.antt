-- The enums, objects and features of all files, each in order by name.
use Rattle.std.specs.Prelude.{ℕ, ◌||◌, List as Seq, [], map, Result, Ok, Err, if◌then◌else◌}
use Rattle.fml_types.specs.Named.{has_name, with_name}
use Rattle.fml_types.specs.declared.manifest.EnumDefinition.{EnumDefinition}
use Rattle.fml_types.specs.declared.manifest.ObjectDefinition.{ObjectDefinition}
use Rattle.fml_types.specs.declared.manifest.FeatureDefinition.{FeatureDefinition}
use Rattle.fml_reader.specs.declared.module.Module.{Module}
use Rattle.fml_imports.specs.Channels.{entries_for}
use Rattle.fml_imports.specs.Outcome.{◌>>=◌, each}
use Rattle.fml_imports.specs.declared.fault.JoinRefusal.{JoinRefusal}
use Rattle.fml_imports.specs.declared.fault.JoinRefusal.TheVariants.{DuplicateName}
use Rattle.fml_imports.specs.declared.joining.Linked.{Linked}

pub record Tables : Type 0 where
  pub enums : Seq (Seq ℕ × EnumDefinition)
  pub objects : Seq (Seq ℕ × ObjectDefinition)
  pub features : Seq (Seq ℕ × FeatureDefinition)

abbrev pub no_tables : Tables
no_tables = record { enums = []; objects = []; features = [] }

-- enums and objects share one space of names
abbrev pub with_enum : Tables → Seq ℕ × EnumDefinition → Result Tables JoinRefusal
with_enum t e = if has_name e.0 t.enums || has_name e.0 t.objects then Err (DuplicateName e.0) else Ok (record t { enums = with_name e t.enums })

abbrev pub with_object : Tables → Seq ℕ × ObjectDefinition → Result Tables JoinRefusal
with_object t o = if has_name o.0 t.enums || has_name o.0 t.objects then Err (DuplicateName o.0) else Ok (record t { objects = with_name o t.objects })

-- features have a space of their own
abbrev pub with_feature : Tables → Seq ℕ × FeatureDefinition → Result Tables JoinRefusal
with_feature t f = if has_name f.0 t.features then Err (DuplicateName f.0) else Ok (record t { features = with_name f t.features })

-- with what one file defines, in the order of the file's reading
unfoldable pub with_module : Tables → Module → Result Tables JoinRefusal
with_module t m = do
  a ← each with_enum t m.enums
  b ← each with_enum a m.types_enums
  c ← each with_object b m.objects
  d ← each with_object c m.types_objects
  each with_feature d m.features

-- what the files define, where no name is met twice in its space
abbrev pub tables_of : Seq Module → Result Tables JoinRefusal
tables_of modules = each with_module no_tables modules

-- a feature of a file of one channel, where the manifest is asked for by another
abbrev pub definition_for : Seq ℕ → Seq ℕ → FeatureDefinition → FeatureDefinition
definition_for asked channel f = record f { defaults = entries_for asked channel f.defaults }

abbrev pub feature_for : Seq ℕ → Seq ℕ → Seq ℕ × FeatureDefinition → Seq ℕ × FeatureDefinition
feature_for asked channel f = (f.0, definition_for asked channel f.1)

-- what a file says, with those entries of its features that count
abbrev pub module_for : Seq ℕ → Linked → Module
module_for asked file = record file.module { features = map (feature_for asked file.channel) file.module.features }
