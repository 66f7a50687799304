-- The manifest that files are for a channel, or its first fault.
use Rattle.std.specs.Prelude.{ℕ, List as Seq, [], ◌∷◌, map, Option, Some, None, Bool, true, false, Result, Ok, Err}
use Rattle.std.specs.Option.{option_or}
use Rattle.fml_types.specs.Ground.{grounding}
use Rattle.fml_types.specs.Named.{has_name}
use Rattle.fml_types.specs.Shapes.{shape_of}
use Rattle.fml_types.specs.Sound.{unknown_name, where_unknown}
use Rattle.fml_types.specs.declared.grounding.Ungrounded.{Ungrounded}
use Rattle.fml_types.specs.declared.grounding.Ungrounded.TheVariants as ungrounded
use Rattle.fml_types.specs.declared.manifest.DefaultEntry.{DefaultEntry}
use Rattle.fml_types.specs.declared.manifest.Field.{Field}
use Rattle.fml_types.specs.declared.manifest.Manifest.{Manifest}
use Rattle.fml_types.specs.declared.manifest.TypeTable.{TypeTable}
use Rattle.fml_imports.specs.Channels.{is_among}
use Rattle.fml_imports.specs.Imports.{first_found, first_unknown_import}
use Rattle.fml_imports.specs.Outcome.{◌>>=◌}
use Rattle.fml_imports.specs.Overrides.{overrides_of, overridden}
use Rattle.fml_imports.specs.Tables.{Tables, tables_of, module_for}
use Rattle.fml_imports.specs.declared.fault.JoinRefusal.{JoinRefusal}
use Rattle.fml_imports.specs.declared.fault.JoinRefusal.TheVariants as refusals
use Rattle.fml_imports.specs.declared.joining.Linked.{Linked}

-- the first name in the types of these fields that isn't known
abbrev pub unknown_in : TypeTable → Seq (Seq ℕ × Field) → Option (Seq ℕ)
unknown_in types fields = first_found (λ (f : Seq ℕ × Field). unknown_name types (shape_of f.1.field_type)) fields

-- the first name in the types of the objects' fields, and then of the features' variables, that isn't known
abbrev pub unknown_of : Manifest → Option (Seq ℕ)
unknown_of m = option_or (first_found (λ o. unknown_in m.types o.1.fields) m.types.objects) (first_found (λ f. unknown_in m.types f.1.variables) m.features)

-- each name is known
abbrev pub all_known : Option (Seq ℕ) → Result (Unit {0}) JoinRefusal
all_known None = Ok tt
all_known (Some name) = Err (refusals.UnknownType name)

-- no object is too high or too heavy
abbrev pub all_grounded : Result (Unit {0}) Ungrounded → Result (Unit {0}) JoinRefusal
all_grounded (Ok u) = Ok tt
all_grounded (Err (ungrounded.EndlessObject name)) = Err (refusals.EndlessObject name)
all_grounded (Err (ungrounded.ObjectTooLarge name)) = Err (refusals.ObjectTooLarge name)

-- the channels of the root, which is the first of the files
abbrev pub root_channels : Seq Linked → Seq (Seq ℕ)
root_channels [] = []
root_channels (f ∷ fs) = f.module.channels

abbrev pub channel_known : Bool → Result (Unit {0}) JoinRefusal
channel_known true = Ok tt
channel_known false = Err refusals.UnknownChannel

-- each import names a channel of the imported file
abbrev pub imports_known : Option (Seq ℕ) → Result (Unit {0}) JoinRefusal
imports_known None = Ok tt
imports_known (Some path) = Err (refusals.UnknownImport path)

-- the first name of an override that no feature has
abbrev pub unknown_override : Seq (Seq ℕ × Seq DefaultEntry) → Tables → Option (Seq ℕ)
unknown_override overrides t = first_found (λ (o : Seq ℕ × Seq DefaultEntry). where_unknown o.0 (has_name o.0 t.features)) overrides

abbrev pub overrides_known : Option (Seq ℕ) → Result (Unit {0}) JoinRefusal
overrides_known None = Ok tt
overrides_known (Some name) = Err (refusals.UnknownOverride name)

abbrev pub manifest_with : Tables → Seq (Seq ℕ × Seq DefaultEntry) → Seq ℕ → Manifest
manifest_with t overrides channel = record { types = record { enums = t.enums; objects = t.objects }; features = map (overridden overrides) t.features; channel = channel }

-- the manifest, where its types are known and grounded, the root has the channel, each import one that the imported file has, and each override a feature
unfoldable pub checked : Manifest → Bool → Option (Seq ℕ) → Option (Seq ℕ) → Result Manifest JoinRefusal
checked m has_channel import override = do
  k ← all_known (unknown_of m)
  g ← all_grounded (grounding m.types)
  c ← channel_known has_channel
  i ← imports_known import
  o ← overrides_known override
  Ok m

-- the manifest of these definitions and overrides, which come of the files
abbrev pub made_of : Tables → Seq (Seq ℕ × Seq DefaultEntry) → Seq Linked → Seq ℕ → Result Manifest JoinRefusal
made_of t overrides files channel = checked (manifest_with t overrides channel) (is_among channel (root_channels files)) (first_unknown_import files) (unknown_override overrides t)

-- the manifest that the files are for this channel, each of them being read for a channel of its own
unfoldable pub joined : Seq Linked → Seq ℕ → Result Manifest JoinRefusal
joined files channel = do
  t ← tables_of (map (module_for channel) files)
  made_of t (overrides_of channel files) files channel
