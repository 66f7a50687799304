-- What imports lay over features: lists of entries, under the features' names.
use Rattle.std.specs.Prelude.{ℕ, zero, suc, List as Seq, [], ◌∷◌, ◌++◌, map, bytes_eq, if◌then◌else◌}
use Rattle.std.specs.List.{flat_map}
use Rattle.fml_types.specs.declared.manifest.DefaultEntry.{DefaultEntry}
use Rattle.fml_types.specs.declared.manifest.FeatureDefinition.{FeatureDefinition}
use Rattle.fml_reader.specs.declared.imports.Import.{Import}
use Rattle.fml_imports.specs.Channels.{entries_for}
use Rattle.fml_imports.specs.declared.joining.Linked.{Linked}

-- the overrides of an import that stands in a file of one channel, where the manifest is asked for by another
abbrev pub import_overrides : Seq ℕ → Seq ℕ → Import → Seq (Seq ℕ × Seq DefaultEntry)
import_overrides asked channel i = map (λ (o : Seq ℕ × Seq DefaultEntry). (o.0, entries_for asked channel o.1)) i.features

-- the overrides of a file, in the order of its imports
abbrev pub file_overrides : Seq ℕ → Linked → Seq (Seq ℕ × Seq DefaultEntry)
file_overrides asked file = flat_map (import_overrides asked file.channel) file.module.imports

-- the overrides of all files, in their order
abbrev pub overrides_of : Seq ℕ → Seq Linked → Seq (Seq ℕ × Seq DefaultEntry)
overrides_of asked files = flat_map (file_overrides asked) files

-- the entries of the overrides of one name
abbrev pub entries_over : Seq ℕ → Seq (Seq ℕ × Seq DefaultEntry) → Seq DefaultEntry
entries_over name [] = []
entries_over name (o ∷ os) = if bytes_eq o.0 name then o.1 ++ entries_over name os else entries_over name os

-- a feature with its own entries, and after them the overrides of its name
abbrev pub overridden : Seq (Seq ℕ × Seq DefaultEntry) → Seq ℕ × FeatureDefinition → Seq ℕ × FeatureDefinition
overridden overrides f = (f.0, record f.1 { defaults = f.1.defaults ++ entries_over f.0 overrides })

-- the features with more entries of the one at a place
abbrev pub laid_at : ℕ → Seq DefaultEntry → Seq (Seq ℕ × FeatureDefinition) → Seq (Seq ℕ × FeatureDefinition)
laid_at place entries [] = []
laid_at zero entries (f ∷ fs) = (f.0, record f.1 { defaults = f.1.defaults ++ entries }) ∷ fs
laid_at (suc place) entries (f ∷ fs) = f ∷ laid_at place entries fs
